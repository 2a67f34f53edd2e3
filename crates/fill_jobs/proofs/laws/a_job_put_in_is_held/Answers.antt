use Rattle.fill_jobs.proofs.HeldLemmas.{held_with}
use Rattle.fill_jobs.proofs.laws.a_job_put_in_is_held.Goals as goal

pub returns : goal.returns
returns c = held_with
