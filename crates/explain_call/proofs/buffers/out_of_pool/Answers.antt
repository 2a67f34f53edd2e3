use Rattle.std.proofs.Common.{arith}
use Rattle.std.proofs.lemmas.Grind.{common_steps}
use Rattle.explain_call.proofs.buffers.out_of_pool.Goals as goal

pub returns : goal.returns
returns c = grind (arith, common_steps)
