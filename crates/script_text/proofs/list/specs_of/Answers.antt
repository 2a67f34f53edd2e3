use Rattle.std.proofs.Common.{arith}
use Rattle.std.proofs.lemmas.Grind.{common_steps}
use Rattle.script_text.proofs.list.specs_of.Goals as goal

pub returns-then-len-ge-SPEC_LIMIT : goal.returns-then-len-ge-SPEC_LIMIT
returns-then-len-ge-SPEC_LIMIT c = grind (arith, common_steps)

pub loop-word-preserved : goal.loop-word-preserved
loop-word-preserved c = grind (arith, common_steps)
