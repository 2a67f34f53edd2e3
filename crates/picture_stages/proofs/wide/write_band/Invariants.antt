use Rattle.std.proofs.Common.{◌≡◌, ℕ, ◌+◌, ◌*◌, ◌/◌, ◌%◌, ◌<◌, slice_index}
use Rattle.cam_types.specs.Picture.{luma, chroma_blue, chroma_red}
use Rattle.picture_stages.specs.Cells.{HoldsColours, HoldsValues, at_cell}
use Rattle.picture_stages.proofs.wide.write_band.Given as goal

abbrev pub invariant-loop-pair : goal.invariant-loop-pair
invariant-loop-pair l = record {
  luma : (k : ℕ) → k < l.pair * 320 → slice_index l.luma k ≡ at_cell luma l.values (k % 320 % 160 / 2 * 2) ((k / 320 + l.first) * 2);
  blue : (k : ℕ) → k < l.pair * 80 → slice_index l.blue k ≡ at_cell chroma_blue l.values (k % 80 * 2) ((k / 80 + l.first) * 2);
  red : (k : ℕ) → k < l.pair * 80 → slice_index l.red k ≡ at_cell chroma_red l.values (k % 80 * 2) ((k / 80 + l.first) * 2);
  filters : HoldsValues l.filters;
  colours : HoldsColours l.colours;
}
