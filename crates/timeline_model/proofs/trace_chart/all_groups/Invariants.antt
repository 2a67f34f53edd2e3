-- What is drawn so far.
use Rattle.std.proofs.Common.{◌≡◌, map, take}
use Rattle.timeline_model.specs.Charts.{group_of}
use Rattle.timeline_model.proofs.trace_chart.all_groups.Given as goal

abbrev pub invariant-loop-one : goal.invariant-loop-one
invariant-loop-one l = l.groups ≡ map group_of (take l.one-index l.drawn)
