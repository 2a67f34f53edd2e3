use Rattle.hal_device.proofs.Resting.{stopped_rests}
use Rattle.hal_device.proofs.quiet.QuietDevice.stop.Goals as goal

pub invariant_of-self : goal.invariant_of-self
invariant_of-self c = (c.self.invariant.0, rw c.begin_stop.ensures (stopped_rests c.self.inside.device.rows c.self.invariant.1))
