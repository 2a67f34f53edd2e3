-- Which buffers that come back are asked for.
use Rattle.std.specs.Prelude.{Bool, ◌&&◌}
use Rattle.hal_model.specs.declared.event.Returned.{Returned}
use Rattle.hal_model.specs.Callbacks.{is_not_filled}
use Rattle.hal_model.specs.Words.{is_any, is_failed_buffer, is_filled, is_good}
use Rattle.hal_rows.specs.Row.{is_orderly_in}
use Rattle.hal_row.specs.declared.buffer.Asked.{Asked}
use Rattle.hal_row.specs.declared.buffer.Asked.TheVariants.{Any, Filled, Good, Failed, Orderly, Other}

abbrev pub is_asked : Asked → Returned → Bool
is_asked Any r = is_any r
is_asked Filled r = is_filled r
is_asked Good r = is_good r
is_asked Failed r = is_failed_buffer r
is_asked (Orderly flushing) r = is_any r && is_orderly_in flushing r
is_asked (Other flushing) r = is_not_filled r && is_orderly_in flushing r
