use Rattle.service_parts.proofs.JobGiven.{sensor_ends}
use Rattle.service_parts.proofs.job_laws.jobs_that_end_are_out.Goals as goal

pub returns-clause-sensor : goal.returns-clause-sensor
returns-clause-sensor c = sensor_ends
