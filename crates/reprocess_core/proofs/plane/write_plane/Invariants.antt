use Rattle.std.proofs.Common.{◌≡◌, ℕ, ◌*◌, ◌/◌, ◌%◌, ◌<◌, slice_index}
use Rattle.reprocess_core.proofs.Reduced.{apart}
use Rattle.reprocess_core.proofs.plane.write_plane.Given as goal

abbrev pub invariant-loop-y : goal.invariant-loop-y
invariant-loop-y g l = (k : ℕ) → k < l.y * l.width → slice_index l.bytes k ≡ apart g.row.STEP (l.width * g.row.STEP) l.from (k % l.width) (k / l.width)
