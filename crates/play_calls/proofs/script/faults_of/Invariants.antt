use Rattle.std.proofs.Common.{◌≡◌}
use Rattle.play_calls.specs.Generated.{faults_of}
use Rattle.play_calls.specs.Words.{state_after}
use Rattle.play_calls.proofs.script.faults_of.Given as goal

abbrev pub invariant-loop-done : goal.invariant-loop-done
invariant-loop-done l = record {
  faults : l.faults ≡ faults_of l.seed l.done;
  generator : l.generator ≡ state_after l.seed l.done;
}
