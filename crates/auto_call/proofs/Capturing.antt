-- What `auto` tells of an input.
use Rattle.std.proofs.Common.{◌≡◌, ◌⊎◌, ℕ, List, refl, inl, inr}
use Rattle.io_edge.specs.States.{SinkState}
use Rattle.auto_call.specs.declared.text.AutoText.{AutoText}
use Rattle.auto_call.specs.OutputLines.{front_of}
use Rattle.auto_call.specs.Output.{lines_of}
use Rattle.call_parts.specs.Answers.{TellsBy, Untouched}
use Rattle.auto_call.specs.Auto.{IsCapturedText, frames_script}
use Rattle.play_calls.specs.Says.{PlaysBehind}
use Rattle.call_parts.specs.declared.output.Output.TheVariants.{Trace}

-- the frames are played behind their lines
pub captured : (text : AutoText) (front : List ℕ) (status : ℕ) (before after : SinkState) → front ≡ front_of (lines_of text) → ((status ≡ 5) × Untouched before after) ⊎ PlaysBehind front Trace (frames_script text) status before after → TellsBy (λ number told. (number ≡ 0) × IsCapturedText text told) status before after
captured text front status before after is (inl h) = inl h
captured text front status before after is (inr plays) =
    inr (0, _, (refl, record { history = plays.history; run = plays.run; shown = refl }), rw is at plays.answers)
