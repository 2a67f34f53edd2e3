use Rattle.hal_device.proofs.Resting.{part_rests}
use Rattle.hal_device.proofs.quiet.QuietDevice.part.Goals as goal

pub invariant_of-self-2 : goal.invariant_of-self-2
invariant_of-self-2 c =
    (c.self.invariant.0, rw c.in_ok-sent.ensures.rows (part_rests c.args.frame.0 c.in_ok-sent.sent.0 c.self.inside.device.rows c.self.invariant.1))
