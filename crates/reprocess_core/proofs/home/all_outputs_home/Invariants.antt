use Rattle.std.proofs.Common.{◌≡◌, ◌<◌, ℕ, true, reverse}
use Rattle.reprocess_model.specs.Past.{is_output_home}
use Rattle.reprocess_core.proofs.home.all_outputs_home.Given as goal

abbrev pub invariant-loop-buffer : goal.invariant-loop-buffer
invariant-loop-buffer l = (k : ℕ) → k < l.buffer → is_output_home (reverse l.lines) k ≡ true
