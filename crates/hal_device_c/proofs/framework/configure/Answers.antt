use Rattle.std.proofs.Common.{arith}
use Rattle.std.proofs.lemmas.Grind.{common_steps}
use Rattle.hal_device_c.proofs.framework.configure.Goals as goal

pub returns-in-Ok-configure-clause-device : goal.returns-in-Ok-configure-clause-device
returns-in-Ok-configure-clause-device c = grind (arith, common_steps)

pub returns-in-Ok-configure-clause-max_buffers : goal.returns-in-Ok-configure-clause-max_buffers
returns-in-Ok-configure-clause-max_buffers c = grind (arith, common_steps)
