use Rattle.hal_device.proofs.Resting.{error_rests}
use Rattle.hal_device.proofs.quiet.QuietDevice.error.Goals as goal

pub invariant_of-self-2 : goal.invariant_of-self-2
invariant_of-self-2 c =
    (c.self.invariant.0, rw c.in_ok-error.ensures.rows (error_rests c.in_ok-error.error c.self.inside.device.rows c.self.invariant.1))
