use Rattle.std.proofs.Common.{◌≡◌, ℕ, ◌+◌, ◌*◌, ◌<◌, slice_index}
use Rattle.picture_stages.specs.Cells.{HoldsValues}
use Rattle.picture_stages.proofs.strip.part_all.Given as goal

abbrev pub invariant-loop-block : goal.invariant-loop-block
invariant-loop-block l = record {
  left : (k : ℕ) → k < l.block * 8 → slice_index l.filters.left k + 64 ≡ slice_index l.rows (k * 2);
  right : (k : ℕ) → k < l.block * 8 → slice_index l.filters.right k + 64 ≡ slice_index l.rows (k * 2 + 1);
  filters : HoldsValues l.filters;
}
