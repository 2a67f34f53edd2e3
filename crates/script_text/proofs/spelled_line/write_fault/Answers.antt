use Rattle.std.proofs.Common.{arith}
use Rattle.std.proofs.lemmas.Grind.{common_steps}
use Rattle.script_text.proofs.spelled_line.write_fault.Goals as goal

pub returns-in-Buffer-clause-text : goal.returns-in-Buffer-clause-text
returns-in-Buffer-clause-text c = grind (arith, common_steps)
