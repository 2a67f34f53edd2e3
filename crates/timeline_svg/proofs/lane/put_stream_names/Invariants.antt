use Rattle.std.proofs.Common.{◌≡◌, ◌++◌, take}
use Rattle.std.specs.Prelude.{string_bytes}
use Rattle.std.specs.List.{flat_map}
use Rattle.timeline_svg.specs.Lanes.{stream_name}
use Rattle.timeline_svg.proofs.lane.put_stream_names.Given as goal

abbrev pub invariant-loop-lane : goal.invariant-loop-lane
invariant-loop-lane l = string_bytes l.out ≡ string_bytes l.initial.out ++ flat_map (stream_name l.layout) (take l.lane-index l.lanes)
