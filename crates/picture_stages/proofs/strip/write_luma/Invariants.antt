use Rattle.std.proofs.Common.{◌≡◌, ℕ, ◌<◌, slice_index}
use Rattle.cam_types.specs.Picture.{luma}
use Rattle.picture_stages.specs.Cells.{at_place}
use Rattle.picture_stages.proofs.strip.write_luma.Given as goal

abbrev pub invariant-loop-i : goal.invariant-loop-i
invariant-loop-i l = (k : ℕ) → k < l.i → slice_index l.bytes k ≡ at_place luma l.colours k
