use Rattle.std.proofs.lemmas.Grind.{common_steps}
use Rattle.std.proofs.Common.{refl, arith}
use Rattle.hal_device.proofs.Resting.{delivered_rests}
use Rattle.hal_device.proofs.quiet.QuietDevice.deliver.Goals as goal

pub invariant_of-self-2 : goal.invariant_of-self-2
invariant_of-self-2 c =
    (c.self.invariant.0, rw (c.in_ok-done.ensures.rows refl) (delivered_rests c.args.frame.0 c.args.stream c.self.inside.device.rows c.self.invariant.1))

pub returns-in_err-done-clause-ready : goal.returns-in_err-done-clause-ready
returns-in_err-done-clause-ready c = grind (arith, common_steps)
