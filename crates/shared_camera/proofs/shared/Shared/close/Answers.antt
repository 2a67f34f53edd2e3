use Rattle.std.proofs.Common.{arith}
use Rattle.std.proofs.lemmas.Grind.{common_steps}
use Rattle.shared_camera.proofs.shared.Shared.close.Goals as goal

pub returns-clause-history : goal.returns-clause-history
returns-clause-history c = grind (arith, common_steps)
