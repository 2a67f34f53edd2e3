use Rattle.std.specs.Prelude.{List}
use Rattle.cam_types.specs.declared.number.FrameNo.{FrameNo}
use Rattle.cam_types.specs.declared.number.StreamIx.{StreamIx}
use Rattle.cam_types.specs.declared.row.RowView.{RowView}
use Rattle.run_model.specs.declared.step.StepName.{StepName}
use Rattle.run_model.specs.declared.step.StepName.TheVariants as step
use Rattle.service_core.specs.Candidates.{row_steps, target_steps}
use Rattle.service_core.specs.declared.frames.OfFrame.{OfFrame}
use Rattle.service_core.specs.declared.frames.OfFrame.TheVariants as frame
use Rattle.service_core.specs.declared.frames.OfRow.{OfRow}
use Rattle.service_core.specs.declared.frames.OfRow.TheVariants.{Frame, Targets}
use Rattle.service_core.specs.declared.frames.OfTarget.{OfTarget}
use Rattle.service_core.specs.declared.frames.OfTarget.TheVariants as target

-- The kinds of steps that open frames have.

-- the frame's step
abbrev pub frame_step : OfFrame → FrameNo → StepName
frame_step frame.Fail n = step.Fail n
frame_step frame.SensorDone n = step.SensorDone n
frame_step frame.Partial n = step.Partial n

-- the step of the frame's buffer for stream s
abbrev pub target_step : OfTarget → FrameNo → StreamIx → StepName
target_step target.ReturnFailed n s = step.ReturnFailed n s
target_step target.TakeFill n s = step.TakeFill n s
target_step target.FillDone n s = step.FillDone n s
target_step target.Deliver n s = step.Deliver n s
target_step target.Early n s = step.Early n s
target_step target.Finish n s = step.Finish n s

-- the steps of the kind for these rows
abbrev pub steps_of_rows : OfRow → List RowView → List StepName
steps_of_rows (Frame k) rows = row_steps (frame_step k) rows
steps_of_rows (Targets k) rows = target_steps (target_step k) rows
