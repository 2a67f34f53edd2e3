use Rattle.fill_jobs.proofs.HeldLemmas.{held_without, none_without}
use Rattle.fill_jobs.proofs.laws.a_job_taken_out_is_held_no_more.Goals as goal

pub returns-clause-none : goal.returns-clause-none
returns-clause-none c = none_without

pub returns-clause-held : goal.returns-clause-held
returns-clause-held c = held_without
