use Rattle.std.proofs.Common.{arith}
use Rattle.std.proofs.lemmas.Grind.{elements}
use Rattle.run_views.proofs.picture.fault_in.Goals as goal

pub returns-in-IllegalAt : goal.returns-in-IllegalAt
returns-in-IllegalAt c = grind (arith, elements)
