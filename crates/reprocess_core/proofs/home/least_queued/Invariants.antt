use Rattle.std.proofs.Common.{◌≡◌, ◌<◌, ℕ, true, reverse}
use Rattle.reprocess_model.specs.Past.{is_gone}
use Rattle.reprocess_core.proofs.home.least_queued.Given as goal

abbrev pub invariant-loop-request : goal.invariant-loop-request
invariant-loop-request l = (k : ℕ) → k < l.request → is_gone k (reverse l.lines) ≡ true
