use Rattle.std.proofs.Common.{◌≡◌, ℕ, ◌+◌, ◌/◌, ◌<◌, slice_index}
use Rattle.cam_types.specs.Picture.{scaled}
use Rattle.picture_stages.specs.Cells.{HoldsColours}
use Rattle.picture_stages.proofs.strip.colour_cells.Given as goal

abbrev pub invariant-loop-i : goal.invariant-loop-i
invariant-loop-i l = record {
  red : (k : ℕ) → k < l.i → slice_index l.colours.red k ≡ scaled (slice_index l.filters.left k + 64);
  green : (k : ℕ) → k < l.i → slice_index l.colours.green k ≡ scaled ((slice_index l.filters.right k + slice_index l.filters.left (k + 80)) / 2 + 64);
  blue : (k : ℕ) → k < l.i → slice_index l.colours.blue k ≡ scaled (slice_index l.filters.right (k + 80) + 64);
  colours : HoldsColours l.colours;
}
