use Rattle.service_parts.proofs.Moved.{takes_out}
use Rattle.service_parts.proofs.job_laws.a_move_takes_a_job_out.Goals as goal

pub returns-clause-out : goal.returns-clause-out
returns-clause-out c = takes_out
