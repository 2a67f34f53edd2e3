use Rattle.std.proofs.Common.{◌≡◌, ◌<◌, ℕ, ◌||◌, not, true, reverse}
use Rattle.reprocess_model.specs.Past.{has_error, is_returned, is_taken}
use Rattle.reprocess_core.proofs.due.is_next_for.Given as goal

abbrev pub invariant-loop-other : goal.invariant-loop-other
invariant-loop-other l = (k : ℕ) → k < l.other → (not (is_taken k (reverse l.lines)) || (is_returned k l.output (reverse l.lines) || has_error k (reverse l.lines))) ≡ true
