use Rattle.fill_jobs.proofs.HeldLemmas.{held_found}
use Rattle.fill_jobs.proofs.laws.a_held_job_is_found.Goals as goal

pub returns : goal.returns
returns c = held_found
