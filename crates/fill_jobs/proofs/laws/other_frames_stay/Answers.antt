use Rattle.fill_jobs.proofs.HeldLemmas.{others_at, others_held}
use Rattle.fill_jobs.proofs.laws.other_frames_stay.Goals as goal

pub returns-clause-jobs : goal.returns-clause-jobs
returns-clause-jobs c = others_at

pub returns-clause-held : goal.returns-clause-held
returns-clause-held c = others_held
