use Rattle.service_parts.proofs.Moved.{fill_gives, sensor_gives}
use Rattle.service_parts.proofs.job_laws.a_move_gives_a_job_back.Goals as goal

pub returns-clause-sensor : goal.returns-clause-sensor
returns-clause-sensor c = sensor_gives

pub returns-clause-fill : goal.returns-clause-fill
returns-clause-fill c = fill_gives
