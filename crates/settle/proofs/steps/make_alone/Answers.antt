use Rattle.service_core.specs.Answers.{adds}
use Rattle.settle.proofs.Making.{jobs_on, run_on}
use Rattle.settle.proofs.steps.make_alone.Goals as goal

pub returns-clause-jobs : goal.returns-clause-jobs
returns-clause-jobs c =
    let old = c.args.service.now in
    let new = c.make.new.self in
    let made = c.in-Did.ensures in
    let m = adds c.args.step c.in-Did.field-0 in
    let run = run_on old new m made.left c.is_a_run.ensures.run in
    jobs_on old new m c.args.hands.now made.left (c.other_moves_leave_the_jobs.ensures old.script m old.history c.args.hands.now run c.requires.alone c.requires.jobs)
