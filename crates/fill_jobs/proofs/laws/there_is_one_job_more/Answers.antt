use Rattle.fill_jobs.proofs.HeldLemmas.{one_more}
use Rattle.fill_jobs.proofs.laws.there_is_one_job_more.Goals as goal

pub returns : goal.returns
returns c = one_more
