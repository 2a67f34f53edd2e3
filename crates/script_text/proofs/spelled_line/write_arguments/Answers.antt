use Rattle.std.proofs.Common.{arith}
use Rattle.std.proofs.lemmas.Grind.{common_steps}
use Rattle.script_text.proofs.spelled_line.write_arguments.Goals as goal

pub returns-in_ok-push_str-in-Once-clause-text : goal.returns-in_ok-push_str-in-Once-clause-text
returns-in_ok-push_str-in-Once-clause-text c = grind (arith, common_steps)
