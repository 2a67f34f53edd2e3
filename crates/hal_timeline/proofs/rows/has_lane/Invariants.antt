-- None before this one is of the stream.
use Rattle.std.proofs.Common.{◌≡◌, drop}
use Rattle.std.specs.List.{list_any}
use Rattle.hal_timeline.specs.Rows.{is_lane_of}
use Rattle.hal_timeline.proofs.rows.has_lane.Given as goal

abbrev pub invariant-loop-lane : goal.invariant-loop-lane
invariant-loop-lane l = list_any (is_lane_of l.stream) l.lanes ≡ list_any (is_lane_of l.stream) (drop l.lane-index l.lanes)
