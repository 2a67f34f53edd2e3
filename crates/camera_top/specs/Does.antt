-- What is done for the form that the words have, or for words of no form: all that `camera_main` says, by the form. Our
-- own choice.
use Rattle.std.specs.Prelude.{◌≡◌, ◌≢◌, ◌≤◌, ℕ, false, is_some, List, Option, Some, None, IfSome}
use Rattle.std.specs.Io.KnownBytes.{IsAtEnd}
use Rattle.io_edge.specs.States.{SinkState, Writes}
use Rattle.text_parts.specs.declared.form.Form.{Form}
use Rattle.text_parts.specs.declared.form.Form.TheVariants.{Play, Run, Check, Convert, Gen, Arbiter, Auto, Logical, Reprocess, Help}
use Rattle.call_parts.specs.declared.output.Output.TheVariants.{Summary}
use Rattle.call_parts.specs.Ends.{CountsSink, CountsSource, ReadsBy}
use Rattle.play_calls.specs.Generated.{generated}
use Rattle.arbiter_call.specs.Arbitrates.{IsArbitrated}
use Rattle.auto_call.specs.Auto.{IsCaptured}
use Rattle.play_calls.specs.Converting.{IsConverted}
use Rattle.play_calls.specs.Judging.{IsJudgedLegal}
use Rattle.play_calls.specs.Says.{IsWhole, IsWholeRun}
use Rattle.logical_call.specs.Logical.{IsLogicalWhole}
use Rattle.reprocess_call.specs.Reprocess.{IsReprocessed}
use Rattle.run_calls.specs.Running.{IsRunWhole}
use Rattle.camera_top.specs.Commands.{TellsOf}
use Rattle.camera_top.specs.Help.{help_text}
use Rattle.camera_top.specs.Words.{limit_of}

-- the input was read to its end, and this holds of it
abbrev pub IsRead : (List ℕ → Type 0) → Option (List ℕ) → Option (List ℕ) → Type 0
IsRead Is from to = IsAtEnd to × IfSome from Is

-- what a form has done at status 0
abbrev pub IsDone : Option Form → Option (List ℕ) → Option (List ℕ) → SinkState → SinkState → Type 0
IsDone (Some Play) from to before after = IsRead (λ input. IsWhole input before after) from to
IsDone (Some (Run workers)) from to before after = IsRead (λ input. IsRunWhole input before after) from to
IsDone (Some Check) from to before after = IsRead (λ input. IsJudgedLegal input before after) from to
IsDone (Some Convert) from to before after = IsRead (λ input. IsConverted input before after) from to
IsDone (Some Arbiter) from to before after = IsRead (λ input. IsArbitrated input before after) from to
IsDone (Some Auto) from to before after = IsRead (λ input. IsCaptured input before after) from to
IsDone (Some Logical) from to before after = IsRead (λ input. IsLogicalWhole input before after) from to
IsDone (Some Reprocess) from to before after = IsRead (λ input. IsReprocessed input before after) from to
IsDone (Some (Gen seed count)) from to before after = IsWholeRun Summary (generated seed count) before after
IsDone (Some Help) from to before after = Writes before after help_text
IsDone None from to before after = ⊥

-- the status and the text are those of the form; at 0 the whole is done; and what becomes of the source and of the sink
pub record Does (form : Option Form) (status : ℕ) (from to : Option (List ℕ)) (faults_before faults_after : ℕ) (before after : SinkState) : Type 0 where
  pub tells : TellsOf form from status before after
  pub usage_only : status ≡ 2 → form ≡ None
  pub done : status ≡ 0 → IsDone form from to before after
  pub unread : is_some (limit_of form) ≡ false → (to ≡ from) × (faults_after ≡ faults_before) × (status ≢ 1) × (status ≢ 3)
  pub source : CountsSource status faults_before faults_after
  pub sink : CountsSink status before after
  pub read : IfSome (limit_of form) (λ limit. ReadsBy limit status from to)
  pub known : status ≤ 5
