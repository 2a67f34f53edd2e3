use Rattle.std.proofs.Common.{arith}
use Rattle.std.proofs.lemmas.Grind.{common_steps}
use Rattle.hal_timeline.proofs.note.headings.Goals as goal

pub loop-breach-preserved : goal.loop-breach-preserved
loop-breach-preserved c = grind (arith, common_steps)

pub returns : goal.returns
returns c = grind (arith, common_steps)
