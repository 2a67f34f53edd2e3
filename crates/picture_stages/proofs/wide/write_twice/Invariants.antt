use Rattle.std.proofs.Common.{◌≡◌, ℕ, ◌*◌, ◌/◌, ◌<◌, slice_index}
use Rattle.picture_stages.proofs.wide.write_twice.Given as goal

abbrev pub invariant-loop-i : goal.invariant-loop-i
invariant-loop-i l = (k : ℕ) → k < l.i * 2 → slice_index l.twice k ≡ slice_index l.all (k / 2)
