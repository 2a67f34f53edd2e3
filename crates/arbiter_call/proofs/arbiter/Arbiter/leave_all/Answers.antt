use Rattle.arbiter_call.proofs.Closing.{left-more}
use Rattle.arbiter_call.proofs.arbiter.Arbiter.leave_all.Goals as goal

pub loop-camera-preserved : goal.loop-camera-preserved
loop-camera-preserved c =
    left-more c.args.self.now c.loop-camera.self c.vacate.new.self c.loop-camera.camera c.loop-camera.invariant c.vacate.ensures
