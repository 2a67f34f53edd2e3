use Rattle.run_rows.proofs.Resting.{sensor_keeps_buffers}
use Rattle.run_rows.proofs.stuck_laws.jobs_are_of_open_frames.Goals as goal

pub returns-clause-sensor : goal.returns-clause-sensor
returns-clause-sensor c = sensor_keeps_buffers
