use Rattle.std.proofs.Common.{◌≡◌, ◌*◌, take}
use Rattle.std.specs.List.{flat_map}
use Rattle.cam_types.specs.Picture.{two_bytes}
use Rattle.picture_stages.proofs.fill.write_bytes.Given as goal

abbrev pub invariant-loop-i : goal.invariant-loop-i
invariant-loop-i l = take (l.i * 2) l.bytes ≡ flat_map two_bytes (take l.i l.values)
