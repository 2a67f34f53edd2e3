use Rattle.std.specs.Prelude.{◌≡◌, ℕ, ◌==◌, ◌&&◌, Bool, true, false, List, [], ◌∷◌, ◌++◌, Option, Some, None, is_none, not, if◌then◌else◌}
use Rattle.std.specs.List.{find, list_any}
use Rattle.std.specs.Option.{option_map}
use Rattle.cam_types.specs.declared.job.FillTarget.{FillTarget}
use Rattle.cam_types.specs.declared.job.JobView.{JobView}
use Rattle.fill_jobs.specs.declared.name.JobName.{JobName}

-- The jobs of sensor and stages that were taken from the device and have yet to go back (our own choice).

-- the job of frame n
abbrev pub held_at : ℕ → List JobView → Option JobView
held_at n jobs = find (λ job. job.frame.0 == n) jobs

-- a job of frame n is among these
abbrev pub is_held : ℕ → List JobView → Bool
is_held n jobs = list_any (λ job. job.frame.0 == n) jobs

-- no two jobs are of one frame
abbrev pub frames_differ : List JobView → Bool
frames_differ [] = true
frames_differ (job ∷ jobs) = not (is_held job.frame.0 jobs) && frames_differ jobs

-- the new jobs are the old ones and this one, and the old ones keep their order
pub record IsWith (job : JobView) (old new : List JobView) : Type 0 where
  pub before : List JobView
  pub after : List JobView
  pub old_is : old ≡ before ++ after
  pub new_is : new ≡ before ++ job ∷ after

-- the job, where it is the sensor's: it has no fill
abbrev pub sensor_job_in : Option JobView → Option JobView
sensor_job_in (Some job) = if is_none job.fill then Some job else None
sensor_job_in None = None

-- the buffer that is filled is one of stream s
abbrev pub is_of_stream : ℕ → Option FillTarget → Bool
is_of_stream s (Some target) = target.stream.0 == s
is_of_stream s None = false

-- the job, where it is a fill of stream s
abbrev pub fill_job_in : ℕ → Option JobView → Option JobView
fill_job_in s (Some job) = if is_of_stream s job.fill then Some job else None
fill_job_in s None = None

-- the frame, and the stream of a fill
abbrev pub name_of : JobView → JobName
name_of job = record { frame = job.frame; stream = option_map (λ target. target.stream) job.fill }
