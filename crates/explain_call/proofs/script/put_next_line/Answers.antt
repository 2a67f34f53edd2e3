use Rattle.std.proofs.Common.{arith}
use Rattle.std.proofs.lemmas.Grind.{common_steps, elements}
use Rattle.explain_call.proofs.script.put_next_line.Goals as goal

pub returns-in_ok-put_next_heading-in-Some : goal.returns-in_ok-put_next_heading-in-Some
returns-in_ok-put_next_heading-in-Some c = grind (arith, common_steps)

pub returns-in-None-2 : goal.returns-in-None-2
returns-in-None-2 c = grind (arith, common_steps)

pub returns-in-None : goal.returns-in-None
returns-in-None c = grind (arith, elements)
