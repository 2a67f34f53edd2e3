use Rattle.std.proofs.Common.{sym, ◌∙◌}
use Rattle.settle.proofs.Finishing.{none_ended, none_left, one_ended}
use Rattle.settle.proofs.runs.finish.Goals as goal

pub loop-job-init : goal.loop-job-init
loop-job-init c = record { jobs = c.requires; finished = none_ended c.args.service.now }

pub loop-job-preserved : goal.loop-job-preserved
loop-job-preserved c = record {
  jobs = c.end_job.ensures.jobs;
  finished = one_ended c.args.service.now c.loop-job.service c.end_job.new.service c.loop-job.invariant.finished c.end_job.ensures.ended;
}

pub returns-clause-none : goal.returns-clause-none
returns-clause-none c = none_left c.loop-job.hands (sym c.first.ensures ∙ c.in_default.is)
