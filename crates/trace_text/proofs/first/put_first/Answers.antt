use Rattle.std.proofs.Common.{arith}
use Rattle.std.proofs.lemmas.Grind.{common_steps}
use Rattle.trace_text.specs.Spelling.{first_line_of}
use Rattle.trace_text.proofs.first.put_first.Goals as goal

pub returns-in-None : goal.returns-in-None
unfolding first_line_of
returns-in-None c = grind (arith, common_steps)

pub returns-in-Some : goal.returns-in-Some
unfolding first_line_of
returns-in-Some c = grind (arith, common_steps)
