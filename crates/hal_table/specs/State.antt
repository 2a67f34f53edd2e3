-- The state of a judge, as the table has it.
use Rattle.hal_rows.specs.State.{HalState}
use Rattle.hal_table.specs.declared.table.HalTable.{HalTable}
use Rattle.hal_row.specs.Raised.{top_in}

abbrev pub state_of : HalTable → HalState
state_of t = record { device = t.device; rows = t.rows; top = top_in t.tops }
