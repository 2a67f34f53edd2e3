use Rattle.std.proofs.Common.{◌≡◌, ◌++◌}
use Rattle.std.specs.List.{flat_map, range_with_len}
use Rattle.video_call.specs.Colours.{pixel}
use Rattle.video_call.proofs.colours.put_colours.Given as goal

abbrev pub invariant-loop-place : goal.invariant-loop-place
invariant-loop-place l =
    l.out.items ≡ l.initial.out.items ++ flat_map (pixel l.width l.height l.picture) (range_with_len 0 l.place)
