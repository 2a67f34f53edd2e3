-- The jobs of the run of one frame: the sensor's from the shutter on, and then the stage's on the one buffer.
use Rattle.std.specs.Prelude.{[], Option, Some, None}
use Rattle.cam_types.specs.declared.job.FillTarget.{FillTarget}
use Rattle.cam_types.specs.declared.job.JobView.{JobView}
use Rattle.run_model.specs.Jobs.{IsJobOut}
use Rattle.worked_runs.specs.OneFrame.{one_frame_script}
use Rattle.worked_runs.specs.Pieces.{plain, raw}
use Rattle.worked_runs.specs.Runs.{play}
use Rattle.trace_model.specs.Worked.{buffer, frame, stream}

-- a job on frame 0
abbrev pub job_of : Option FillTarget → JobView
job_of fill = record { frame = frame 0; settings = plain; fill = fill }

abbrev pub fill_of_buffer : FillTarget
fill_of_buffer = record { stream = stream 0; buffer = buffer 0; spec = raw }

-- the sixth move is the shutter, the seventh ends the sensor's work, the eleventh takes the buffer, the twelfth ends
-- its fill
pub record JobsOfOneFrame : Type 0 where
  pub sensor_out : IsJobOut one_frame_script (play one_frame_script 6 []) (job_of None)
  pub sensor_done : ¬ IsJobOut one_frame_script (play one_frame_script 7 []) (job_of None)
  pub fill_out : IsJobOut one_frame_script (play one_frame_script 11 []) (job_of (Some fill_of_buffer))
  pub fill_done : ¬ IsJobOut one_frame_script (play one_frame_script 12 []) (job_of (Some fill_of_buffer))
