-- Which requests a rule speaks of. (Our own choice; the tests are those of the rules.)
use Rattle.std.specs.Prelude.{Bool}
use Rattle.hal_model.specs.declared.event.HalEvent.{HalEvent}
use Rattle.hal_rows.specs.declared.row.Row.{Row}
use Rattle.hal_rows.specs.Judged.{is_row_in_flight, is_row_left_by_flush, is_row_silent, is_row_unlit}
use Rattle.hal_rows.specs.Row.{is_row_outstanding}
use Rattle.hal_checks.specs.declared.meant.Which.{Which}
use Rattle.hal_checks.specs.declared.meant.Which.TheVariants.{InFlight, Outstanding, Left, Silent, Unlit}

abbrev pub is_meant : Which → HalEvent → Row → Bool
is_meant InFlight e = is_row_in_flight
is_meant Outstanding e = is_row_outstanding
is_meant Left e = is_row_left_by_flush
is_meant Silent e = is_row_silent e
is_meant Unlit e = is_row_unlit e
