-- The bars so far.
use Rattle.std.proofs.Common.{◌≡◌, map, take}
use Rattle.timeline_model.specs.Charts.{unfinished_of}
use Rattle.timeline_model.proofs.trace_chart.all_unfinished.Given as goal

abbrev pub invariant-loop-seat : goal.invariant-loop-seat
invariant-loop-seat l = l.pieces ≡ map unfinished_of (take l.seat-index l.seats)
