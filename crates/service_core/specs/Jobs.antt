use Rattle.std.specs.Prelude.{◌≡◌, ℕ, Option, Some, None}
use Rattle.std.specs.Option.{option_map}
use Rattle.cam_types.specs.declared.job.JobView.{JobView}
use Rattle.cam_types.specs.declared.number.FrameNo.{FrameNo}
use Rattle.cam_types.specs.declared.number.StreamIx.{StreamIx}
use Rattle.trace_model.specs.declared.entry.Entry.{Entry}
use Rattle.trace_model.specs.declared.entry.Entry.TheVariants.{Shutter as ShutterEntry}
use Rattle.run_model.specs.declared.step.StepName.TheVariants.{Shutter, TakeFill}
use Rattle.run_model.specs.Jobs.{IsJobOut}
use Rattle.run_model.specs.State.{State}
use Rattle.service_core.specs.Answers.{Makes, Stays, adds, silent}
use Rattle.service_core.specs.declared.sensor.Shuttered.{Shuttered}
use Rattle.service_core.specs.declared.sensor.Shuttered.TheVariants.{Began, NotBegun}

-- What a step answers that gives out a job.

-- the shutter is made, of the frame of a job of the sensor that is out now
pub record Begins (e : Entry) (job : JobView) (old new : State) : Type 0 where
  pub made : Makes (adds Shutter e) old new
  pub time : ℕ
  pub shutter : e ≡ ShutterEntry job.frame time
  pub out : IsJobOut new.script new.history job
  pub exposure : job.fill ≡ None

abbrev pub AnswersShutter : State → Shuttered → State → Type 0
AnswersShutter old (Began e job) new = Begins e job old new
AnswersShutter old NotBegun new = Stays Shutter old new

-- the taking is made, of the frame's buffer for the stream, by a job of a stage that is out now
pub record Takes (n : FrameNo) (s : StreamIx) (job : JobView) (old new : State) : Type 0 where
  pub made : Makes (silent (TakeFill n s)) old new
  pub out : IsJobOut new.script new.history job
  pub frame : job.frame ≡ n
  pub stream : option_map (λ target. target.stream) job.fill ≡ Some s

abbrev pub AnswersTake : FrameNo → StreamIx → State → Option JobView → State → Type 0
AnswersTake n s old (Some job) new = Takes n s job old new
AnswersTake n s old None new = Stays (TakeFill n s) old new
