use Rattle.std.proofs.Common.{arith}
use Rattle.settle.proofs.Settling.{few_added, one_added}
use Rattle.settle.proofs.runs.settle.Goals as goal

pub overflow_add-count : goal.overflow_add-count
overflow_add-count c =
    let added = one_added c.args.service.now c.loop-service.service c.step_at.new.service c.loop-service.count c.in-Done.field-0 c.loop-service.invariant.added c.in-Done.ensures.stepped in
    let few = few_added c.args.service.now c.step_at.new.service _ added c.is_a_run.ensures.few c.is_a_run.ensures.valid in
    omega (arith, few)

pub loop-service-preserved : goal.loop-service-preserved
loop-service-preserved c = record {
  jobs = c.step_at.ensures.jobs;
  added = one_added c.args.service.now c.loop-service.service c.step_at.new.service c.loop-service.count c.in-Done.field-0 c.loop-service.invariant.added c.in-Done.ensures.stepped;
}
