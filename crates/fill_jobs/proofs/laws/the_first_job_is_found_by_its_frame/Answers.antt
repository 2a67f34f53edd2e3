use Rattle.fill_jobs.proofs.HeldLemmas.{first_found}
use Rattle.fill_jobs.proofs.laws.the_first_job_is_found_by_its_frame.Goals as goal

pub returns : goal.returns
returns c = first_found
