use Rattle.std.proofs.Common.{arith}
use Rattle.std.proofs.lemmas.Grind.{common_steps}
use Rattle.text_parts.proofs.picks.with_picks.Goals as goal

pub returns-then-len-limit : goal.returns-then-len-limit
returns-then-len-limit c = grind (arith, common_steps)

pub loop-word-preserved : goal.loop-word-preserved
loop-word-preserved c = grind (arith, common_steps)
