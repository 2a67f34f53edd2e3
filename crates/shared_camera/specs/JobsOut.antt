-- Which jobs are out after a history, as a list: the latest stands first. (Our own choice.)
use Rattle.std.specs.Prelude.{ℕ, ◌==◌, not, List, [], ◌∷◌, Option, Some, None, filter, option_map, slice_get}
use Rattle.cam_types.specs.declared.job.FillTarget.{FillTarget}
use Rattle.cam_types.specs.declared.job.JobView.{JobView}
use Rattle.cam_types.specs.declared.number.FrameNo.{FrameNo}
use Rattle.cam_types.specs.declared.number.StreamIx.{StreamIx}
use Rattle.cam_types.specs.declared.script.Script.{Script}
use Rattle.cam_types.specs.declared.stream.StreamSpec.{StreamSpec}
use Rattle.trace_model.specs.declared.entry.Entry.{Entry}
use Rattle.trace_model.specs.declared.entry.Entry.TheVariants.{Shutter as ShutterEntry}
use Rattle.trace_model.specs.declared.entry.Sent.{Sent}
use Rattle.trace_model.specs.Configuration.{streams}
use Rattle.trace_model.specs.Frames.{settings_of, target_of}
use Rattle.run_model.specs.declared.step.Move.{Move}
use Rattle.run_model.specs.declared.step.StepName.{StepName}
use Rattle.run_model.specs.declared.step.StepName.TheVariants.{Shutter, SensorDone, TakeFill, FillDone}
use Rattle.run_model.specs.History.{trace_of}

-- a job on frame n, with the frame's settings: the sensor's has no target
abbrev pub job_on : Script → List Move → FrameNo → Option FillTarget → JobView
job_on script h n fill = record { frame = n; settings = settings_of script (trace_of h) n.0; fill = fill }

-- the sensor's job, of the frame whose shutter the entry is
abbrev pub exposed_by : Script → List Move → Option Entry → Option JobView
exposed_by script h (Some (ShutterEntry n time)) = Some (job_on script h n None)
exposed_by script h _ = None

-- what a stage fills for a stream: the target's buffer, by the stream's specification
abbrev pub filling : StreamIx → Option StreamSpec → Option Sent → Option FillTarget
filling s (Some spec) (Some t) = Some (record { stream = s; buffer = t.buffer; spec = spec })
filling s _ _ = None

-- a stage's job on frame n's buffer for stream s
abbrev pub filled_by : Script → List Move → FrameNo → StreamIx → Option JobView
filled_by script h n s =
    let past = trace_of h in
    option_map (λ target. job_on script h n (Some target)) (filling s (slice_get (streams script past) s.0) (target_of n.0 s.0 past))

abbrev pub with_job : Option JobView → List JobView → List JobView
with_job (Some job) jobs = job ∷ jobs
with_job None jobs = jobs

-- these jobs without that of frame n
abbrev pub without_frame : FrameNo → List JobView → List JobView
without_frame n jobs = filter (λ job. not (job.frame.0 == n.0)) jobs

-- the jobs that are out after the history h. Its last move made this step with this entry; these jobs were out before
abbrev pub after_step : Script → List Move → StepName → Option Entry → List JobView → List JobView
after_step script h Shutter entry jobs = with_job (exposed_by script h entry) jobs
after_step script h (TakeFill n s) entry jobs = with_job (filled_by script h n s) jobs
after_step script h (SensorDone n) entry jobs = without_frame n jobs
after_step script h (FillDone n s) entry jobs = without_frame n jobs
after_step script h _ entry jobs = jobs

-- none at first; a shutter adds the sensor's job of its frame, and the taking of a buffer a stage's; the end of the
-- sensor's or of a stage's work takes the frame's job away; other moves leave them
abbrev pub jobs_out : Script → List Move → List JobView
jobs_out script [] = []
jobs_out script (m ∷ h) = after_step script (m ∷ h) m.step m.entry (jobs_out script h)
