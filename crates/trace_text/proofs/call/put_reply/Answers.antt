use Rattle.std.proofs.Common.{arith}
use Rattle.std.proofs.lemmas.Grind.{common_steps}
use Rattle.trace_text.proofs.call.put_reply.Goals as goal

pub returns-in-Submitted-clause-text : goal.returns-in-Submitted-clause-text
returns-in-Submitted-clause-text c = grind (arith, common_steps)

pub returns-in-Configured-clause-text : goal.returns-in-Configured-clause-text
returns-in-Configured-clause-text c = grind (arith, common_steps)
