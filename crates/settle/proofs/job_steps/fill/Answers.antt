use Rattle.std.proofs.Common.{refl}
use Rattle.run_model.specs.declared.step.StepName.TheVariants.{TakeFill}
use Rattle.service_core.specs.Answers.{silent}
use Rattle.settle.proofs.Making.{fill_taken, has_place, taken_on}
use Rattle.settle.proofs.job_steps.fill.Goals as goal

pub put_fill-requires : goal.put_fill-requires
put_fill-requires c =
    record { room = has_place c.args.service.now c.take_fill.new.self (silent (TakeFill c.args.frame c.args.stream)) c.args.hands.now c.in-Some.ensures.made.left c.is_a_run.ensures.run c.is_a_run.ensures.valid c.requires.jobs refl }

pub returns-clause-jobs : goal.returns-clause-jobs
returns-clause-jobs c =
    let took = c.in-Some.ensures in
    let m = silent (TakeFill c.args.frame c.args.stream) in
    let takes = fill_taken m c.in-Some.job c.args.frame c.args.stream refl took.frame took.stream in
    taken_on c.args.service.now c.take_fill.new.self m c.in-Some.job c.args.hands.now c.put_fill.new.self took.made.left c.is_a_run.ensures.run c.requires.jobs takes took.out c.put_fill.ensures
