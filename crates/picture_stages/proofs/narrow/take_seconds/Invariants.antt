use Rattle.std.proofs.Common.{◌≡◌, ℕ, ◌*◌, ◌<◌, slice_index}
use Rattle.picture_stages.proofs.narrow.take_seconds.Given as goal

abbrev pub invariant-loop-i : goal.invariant-loop-i
invariant-loop-i l = (k : ℕ) → k < l.i → slice_index l.seconds k ≡ slice_index l.all (k * 2)
