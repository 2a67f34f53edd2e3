use Rattle.std.proofs.Common.{arith}
use Rattle.std.proofs.lemmas.Grind.{elements}
use Rattle.hal_device_c.proofs.steps.deliver.Goals as goal

pub returns-clause-picture : goal.returns-clause-picture
returns-clause-picture c = grind (arith, elements)
