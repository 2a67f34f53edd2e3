use Rattle.hal_device.proofs.Resting.{retired_rests}
use Rattle.hal_device.proofs.quiet.QuietDevice.retire.Goals as goal

pub invariant_of-self : goal.invariant_of-self
invariant_of-self c =
    (c.self.invariant.0, retired_rests c.retire.result c.self.inside.device c.retire.new.self c.args.frame.0 c.retire.ensures.rows c.retire.ensures.unchanged c.self.invariant.1)
