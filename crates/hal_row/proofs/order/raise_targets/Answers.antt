use Rattle.hal_row.proofs.Raised.{raised_more}
use Rattle.hal_row.proofs.order.raise_targets.Goals as goal

pub loop-target-preserved : goal.loop-target-preserved
loop-target-preserved c = raised_more c.args.rank c.args.targets.now c.loop-target.target-index _ c.args.tops.now c.loop-target.tops c.raise_target.new.tops c.loop-target-test.true c.loop-target.invariant c.in_ok-raise_target.ensures
