use Rattle.hal_table.proofs.Counted.{added_more}
use Rattle.hal_table.proofs.held.add_targets.Goals as goal

pub loop-target-preserved : goal.loop-target-preserved
loop-target-preserved c =
    added_more c.args.targets.now c.loop-target.target-index _ c.args.held.now c.loop-target.held c.add_target.new.held c.loop-target-test.true c.loop-target.invariant c.in_ok-add_target.ensures.buffers c.in_ok-add_target.ensures.streams
