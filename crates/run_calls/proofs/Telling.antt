-- The status that belongs to an input of `run` is 0 or 1, and at 0 a whole run was written.
use Rattle.std.proofs.Common.{◌≡◌, ℕ, List, Option, IfSome, arith}
use Rattle.io_edge.specs.States.{SinkState}
use Rattle.script_text.specs.Grammar.{script_of}
use Rattle.call_parts.specs.Answers.{AreAnswers, Tells}
use Rattle.call_parts.proofs.Done.{done, meant}
use Rattle.call_parts.proofs.Meanings.{of_script}
use Rattle.run_calls.specs.Running.{IsRunWhole, Runs, SaysOfRun}

pub are_run : (input : List ℕ) → AreAnswers (Runs input)
are_run input = of_script SaysOfRun input (λ script wanted text h. omega (arith, h.0))

pub run_whole : (left : Option (List ℕ)) (status : ℕ) (before after : SinkState) → Tells Runs left status before after → status ≡ 0 → IfSome left (λ input. IsRunWhole input before after)
run_whole left status before after =
    done Runs (λ input. IsRunWhole input before after) left status before after
    (λ input text belongs wrote. meant _ SaysOfRun (IsRunWhole input before after) (script_of input) text (λ script meaning says. record { script = script; meaning = meaning; history = says.1.history; whole = says.1.whole; written = rw says.1.shown at wrote }) belongs)
