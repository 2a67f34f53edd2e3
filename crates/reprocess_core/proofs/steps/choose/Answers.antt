use Rattle.std.proofs.Common.{arith}
use Rattle.std.proofs.lemmas.Grind.{elements}
use Rattle.reprocess_core.proofs.steps.choose.Goals as goal

pub returns-clause-step : goal.returns-clause-step
returns-clause-step c = grind (arith, elements)
