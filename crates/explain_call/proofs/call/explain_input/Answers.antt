use Rattle.std.proofs.Common.{arith}
use Rattle.std.proofs.lemmas.Grind.{common_steps}
use Rattle.explain_call.proofs.call.explain_input.Goals as goal

pub explain_text_of-requires-clause-part : goal.explain_text_of-requires-clause-part
explain_text_of-requires-clause-part c = grind (arith, common_steps)

pub explain_text_of-requires-clause-long : goal.explain_text_of-requires-clause-long
explain_text_of-requires-clause-long c = grind (arith, common_steps)
