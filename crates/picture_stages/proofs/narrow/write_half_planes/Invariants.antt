use Rattle.std.proofs.Common.{◌≡◌, ℕ, ◌+◌, ◌*◌, ◌/◌, ◌%◌, ◌<◌, slice_index}
use Rattle.cam_types.specs.Picture.{luma, chroma_blue, chroma_red}
use Rattle.picture_stages.specs.Cells.{HoldsColours, HoldsValues, at_cell}
use Rattle.picture_stages.proofs.narrow.write_half_planes.Given as goal

abbrev pub invariant-loop-pair : goal.invariant-loop-pair
invariant-loop-pair l = record {
  luma : (k : ℕ) → k < l.pair * 160 → slice_index l.luma_plane k ≡ at_cell luma l.values (k % 160 % 80 * 2) (k % 160 / 80 * 2 + k / 160 * 4);
  blue : (k : ℕ) → k < l.pair * 40 → slice_index l.blue k ≡ at_cell chroma_blue l.values (k % 40 * 4) (k / 40 * 4);
  red : (k : ℕ) → k < l.pair * 40 → slice_index l.red k ≡ at_cell chroma_red l.values (k % 40 * 4) (k / 40 * 4);
  filters : HoldsValues l.filters;
  colours : HoldsColours l.colours;
}
