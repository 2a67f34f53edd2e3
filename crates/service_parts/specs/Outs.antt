use Rattle.std.specs.Prelude.{◌≡◌, ℕ, Bool, true, false, List, Option, Some, None, IsTrue}
use Rattle.cam_types.specs.declared.job.FillTarget.{FillTarget}
use Rattle.cam_types.specs.declared.job.JobView.{JobView}
use Rattle.cam_types.specs.declared.script.Script.{Script}
use Rattle.trace_model.specs.declared.entry.Entry.TheVariants.{Shutter as ShutterEntry}
use Rattle.run_model.specs.declared.step.Move.{Move}
use Rattle.run_model.specs.declared.step.StepName.{StepName}
use Rattle.run_model.specs.declared.step.StepName.TheVariants.{Shutter, SensorDone, TakeFill, FillDone}
use Rattle.run_model.specs.Jobs.{IsJobOut}
use Rattle.fill_jobs.specs.Held.{frames_differ, held_at}

-- Which jobs are out after a history, as a list, and which moves change it (our own choice).

-- these are the jobs that are out: one of a frame at most, each of them is out, and each job that is out is among them
pub record AreOut (script : Script) (h : List Move) (jobs : List JobView) : Type 0 where
  pub once : IsTrue (frames_differ jobs)
  pub held : (n : ℕ) (job : JobView) → held_at n jobs ≡ Some job → IsJobOut script h job
  pub all : (job : JobView) → IsJobOut script h job → held_at job.frame.0 jobs ≡ Some job

-- the step takes a job out
abbrev pub takes_a_job : StepName → Bool
takes_a_job Shutter = true
takes_a_job (TakeFill _ _) = true
takes_a_job _ = false

-- the step takes a job out or gives one back
abbrev pub moves_a_job : StepName → Bool
moves_a_job (SensorDone _) = true
moves_a_job (FillDone _ _) = true
moves_a_job step = takes_a_job step

-- the move takes the job out: the sensor's by the shutter of its frame, a stage's by taking its buffer
abbrev pub TakesWith : Move → JobView → Option FillTarget → Type 0
TakesWith m job None = (time : ℕ) × (m.entry ≡ Some (ShutterEntry job.frame time))
TakesWith m job (Some target) = m.step ≡ TakeFill job.frame target.stream

abbrev pub Takes : Move → JobView → Type 0
Takes m job = TakesWith m job job.fill
