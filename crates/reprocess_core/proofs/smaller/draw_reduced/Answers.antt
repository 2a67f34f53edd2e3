use Rattle.std.proofs.Common.{arith}
use Rattle.std.proofs.lemmas.Grind.{common_steps}
use Rattle.reprocess_core.proofs.smaller.draw_reduced.Goals as goal

pub returns-clause-picture : goal.returns-clause-picture
returns-clause-picture c = grind (arith, common_steps)

pub returns-clause-len : goal.returns-clause-len
returns-clause-len c = grind (arith, common_steps)
