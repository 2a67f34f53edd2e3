use Rattle.std.proofs.Common.{arith}
use Rattle.std.proofs.lemmas.Grind.{common_steps}
use Rattle.reprocess_core.proofs.candidates.all_steps.Goals as goal

pub returns : goal.returns
returns c = grind (arith, common_steps)
