use Rattle.std.specs.Prelude.{◌≡◌, ℕ, Bool, true, false, not, Some, IsTrue}
use Rattle.cam_types.specs.declared.number.FrameNo.{FrameNo}
use Rattle.cam_types.specs.declared.number.StreamIx.{StreamIx}
use Rattle.reprocess_model.specs.declared.step.ReStepName.{ReStepName}
use Rattle.reprocess_model.specs.declared.step.ReStepName.TheVariants as step
use Rattle.reprocess_model.specs.Run.{chosen_line, is_complete}
use Rattle.reprocess_core.specs.State.{State, with_line}
use Rattle.reprocess_core.specs.declared.candidates.OfOutput.{OfOutput}
use Rattle.reprocess_core.specs.declared.candidates.OfOutput.TheVariants.{ReturnFailed, ReturnFilled}
use Rattle.reprocess_core.specs.declared.candidates.OfRequest.{OfRequest}
use Rattle.reprocess_core.specs.declared.candidates.OfRequest.TheVariants.{Fail, ReturnInput}
use Rattle.reprocess_core.specs.declared.device.ReStep.{ReStep}
use Rattle.reprocess_core.specs.declared.device.ReStep.TheVariants.{Did, Finished}

-- the step of a kind of a request, and of one of its outputs
abbrev pub request_step : OfRequest → FrameNo → ReStepName
request_step Fail n = step.Fail n
request_step ReturnInput n = step.ReturnInput n

abbrev pub output_step : OfOutput → FrameNo → StreamIx → ReStepName
output_step ReturnFailed n s = step.ReturnFailed n s
output_step ReturnFilled n s = step.ReturnFilled n s

-- a step that needs no picture
abbrev pub is_plain : ReStepName → Bool
is_plain step.Client = true
is_plain step.DropNext = true
is_plain (step.Fail _) = true
is_plain (step.ReturnFailed _ _) = true
is_plain _ = false

-- what a step with a pick answers, and what it leaves: the line of the candidate that the pick names, or nothing of a
-- run that is complete
abbrev pub Steps : State → ℕ → ReStep → State → Type 0
Steps old pick (Did line) new =
    IsTrue (not (is_complete old.plan old.past)) × (chosen_line old.plan old.past pick ≡ Some line)
    × (new ≡ with_line line old)
Steps old pick Finished new = IsTrue (is_complete old.plan old.past) × (new ≡ old)
