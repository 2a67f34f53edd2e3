use Rattle.std.proofs.Common.{arith}
use Rattle.std.proofs.lemmas.Grind.{elements}
use Rattle.metadata.proofs.writing.bytes_from.Goals as goal

pub returns-clause-fit : goal.returns-clause-fit
returns-clause-fit c = grind (arith, elements)
