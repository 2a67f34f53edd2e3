use Rattle.std.proofs.Common.{◌≡◌, ℕ, ◌<◌, slice_index}
use Rattle.cam_types.specs.Picture.{chroma_blue, chroma_red}
use Rattle.picture_stages.specs.Cells.{at_place}
use Rattle.picture_stages.proofs.strip.write_differences.Given as goal

abbrev pub invariant-loop-i : goal.invariant-loop-i
invariant-loop-i l = record {
  blue : (k : ℕ) → k < l.i → slice_index l.blue k ≡ at_place chroma_blue l.colours k;
  red : (k : ℕ) → k < l.i → slice_index l.red k ≡ at_place chroma_red l.colours k;
}
