-- A run that is written whole keeps the laws.
use Rattle.std.proofs.Common.{◌≡◌, ℕ, List, arith, inl, inr}
use Rattle.io_edge.specs.States.{SinkState}
use Rattle.call_parts.specs.Answers.{TellsBy}
use Rattle.play_calls.specs.Says.{IsWholeRun, SaysOfScript}
use Rattle.call_parts.specs.declared.output.Output.{Output}
use Rattle.cam_types.specs.declared.script.Script.{Script}
use Rattle.run_model.specs.Lawful.{KeepsLaws}
use Rattle.run_model.specs.History.{trace_of}
use Rattle.trace_model.specs.Complete.{IsComplete}
use Rattle.trace_model.specs.declared.entry.Entry.{Entry}

-- a complete trace of the script keeps the laws
abbrev pub KeepsLawsAtEnd : Script → Type 0
KeepsLawsAtEnd script = (past : List Entry) → IsComplete script past → KeepsLaws script past

-- a run that is written whole keeps the laws
pub whole_run : (output : Output) (script : Script) (status : ℕ) (before after : SinkState) → KeepsLawsAtEnd script → status ≡ 0 → TellsBy (SaysOfScript output script) status before after → IsWholeRun output script before after
whole_run output script status before after law zero' (inl h) = absurd (omega (arith, zero', h.0))
whole_run output script status before after law zero' (inr (wanted, text, says, inl h)) =
    let t = says.1 in
    record { history = t.history; run = t.run; lawful = law (trace_of t.history) t.run.complete; written = rw t.shown at h.1.0 }
whole_run output script status before after law zero' (inr (wanted, text, says, inr h)) = absurd (omega (arith, zero', h.0))
