-- Which requests are at fault.
use Rattle.std.specs.Prelude.{ℕ, List, [], ◌∷◌, filter}
use Rattle.hal_model.specs.declared.event.HalEvent.{HalEvent}
use Rattle.hal_model.specs.declared.rule.Fault.{Fault}
use Rattle.hal_rows.specs.declared.row.Row.{Row}
use Rattle.hal_rows.specs.Judged.{is_row_silent, row_silences}

abbrev pub frame_of : Row → ℕ
frame_of r = r.frame

-- its buffers in error without their notices, where one is told of it
abbrev pub silence_of : HalEvent → Row → List Fault
silence_of e r = row_silences (filter (is_row_silent e) (r ∷ []))
