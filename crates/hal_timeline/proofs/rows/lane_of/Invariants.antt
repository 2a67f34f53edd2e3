-- None before this one is it.
use Rattle.std.proofs.Common.{◌≡◌, drop}
use Rattle.std.specs.Prelude.{find}
use Rattle.hal_timeline.specs.Rows.{is_lane_of}
use Rattle.hal_timeline.proofs.rows.lane_of.Given as goal

abbrev pub invariant-loop-lane : goal.invariant-loop-lane
invariant-loop-lane l = find (is_lane_of l.stream) l.lanes ≡ find (is_lane_of l.stream) (drop l.lane-index l.lanes)
