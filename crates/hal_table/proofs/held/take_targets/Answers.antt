use Rattle.hal_table.proofs.Counted.{taken_more}
use Rattle.hal_table.proofs.held.take_targets.Goals as goal

pub loop-target-preserved : goal.loop-target-preserved
loop-target-preserved c =
    taken_more c.args.targets.now c.loop-target.target-index _ c.args.held.now c.loop-target.held c.take_target.new.held c.loop-target-test.true c.loop-target.invariant c.in_ok-take_target.ensures.buffers c.in_ok-take_target.ensures.streams
