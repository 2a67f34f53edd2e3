use Rattle.fill_jobs.proofs.HeldLemmas.{differ_with, differ_without}
use Rattle.fill_jobs.proofs.laws.a_job_more_or_less_keeps_frames_apart.Goals as goal

pub returns-clause-more : goal.returns-clause-more
returns-clause-more c = differ_with

pub returns-clause-less : goal.returns-clause-less
returns-clause-less c = differ_without
