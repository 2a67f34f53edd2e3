use Rattle.std.proofs.Common.{rules}
use Rattle.metadata.proofs.result_part.part.Goals as goal

pub returns-in-2 : goal.returns-in-2
returns-in-2 c = search rules
