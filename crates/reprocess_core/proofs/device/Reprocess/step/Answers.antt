use Rattle.reprocess_core.proofs.Listed.{chosen_ready}
use Rattle.reprocess_core.proofs.device.Reprocess.step.Goals as goal

pub make-line-requires : goal.make-line-requires
make-line-requires c =
    chosen_ready c.self.inside.course.plan c.self.inside.course.past c.args.pick c.choose-step.result c.choose-step.ensures.step
