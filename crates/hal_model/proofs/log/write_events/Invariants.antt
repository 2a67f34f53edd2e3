use Rattle.std.proofs.Common.{◌≡◌, true, ◌++◌, take}
use Rattle.std.specs.Prelude.{string_bytes}
use Rattle.std.specs.List.{flat_map, list_all}
use Rattle.hal_model.specs.Fits.{is_typed}
use Rattle.hal_model.specs.Spelling.{event_line}
use Rattle.hal_model.proofs.log.write_events.Given as goal

abbrev pub invariant-loop-event : goal.invariant-loop-event
invariant-loop-event l = (string_bytes l.out ≡ string_bytes l.fn.out ++ flat_map event_line (take l.event-index l.events)) × (list_all is_typed (take l.event-index l.events) ≡ true)
