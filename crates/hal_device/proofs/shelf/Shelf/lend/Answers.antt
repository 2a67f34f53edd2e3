use Rattle.std.proofs.Common.{arith}
use Rattle.std.proofs.lemmas.Grind.{common_steps}
use Rattle.hal_device.proofs.shelf.Shelf.lend.Goals as goal

pub invariant_of-self : goal.invariant_of-self
invariant_of-self c = grind (arith, common_steps)

pub returns-clause-block : goal.returns-clause-block
returns-clause-block c = grind (arith, common_steps)
