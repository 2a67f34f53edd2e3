use Rattle.std.proofs.Common.{arith}
use Rattle.std.proofs.lemmas.Grind.{common_steps}
use Rattle.hal_judge.proofs.fault.streams_unnamed.Goals as goal

pub loop-stream-preserved : goal.loop-stream-preserved
loop-stream-preserved c = grind (arith, common_steps)

pub returns : goal.returns
returns c = grind (arith, common_steps)
