use Rattle.std.proofs.Common.{◌≡◌, ℕ, ◌+◌, ◌*◌, ◌<◌, slice_index}
use Rattle.picture_stages.specs.Cells.{HoldsValues, half_place}
use Rattle.picture_stages.proofs.strip.part_half.Given as goal

abbrev pub invariant-loop-part : goal.invariant-loop-part
invariant-loop-part l = record {
  left : (k : ℕ) → k < l.part * 40 → slice_index l.filters.left k + 64 ≡ slice_index l.rows (half_place k);
  right : (k : ℕ) → k < l.part * 40 → slice_index l.filters.right k + 64 ≡ slice_index l.rows (half_place k + 1);
  filters : HoldsValues l.filters;
}

abbrev pub invariant-loop-block : goal.invariant-loop-block
invariant-loop-block l = record {
  left : (k : ℕ) → k < (l.part * 5 + l.block) * 8 → slice_index l.filters.left k + 64 ≡ slice_index l.rows (half_place k);
  right : (k : ℕ) → k < (l.part * 5 + l.block) * 8 → slice_index l.filters.right k + 64 ≡ slice_index l.rows (half_place k + 1);
  filters : HoldsValues l.filters;
}
