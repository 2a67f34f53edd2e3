use Rattle.std.proofs.Common.{arith}
use Rattle.std.proofs.lemmas.Grind.{common_steps}
use Rattle.hal_device.proofs.quiet.QuietDevice.may_fill.Goals as goal

pub returns : goal.returns
returns c = grind (arith, common_steps)
