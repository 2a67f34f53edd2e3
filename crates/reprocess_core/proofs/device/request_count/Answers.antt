use Rattle.std.proofs.Common.{arith}
use Rattle.std.proofs.lemmas.Grind.{common_steps, elements}
use Rattle.reprocess_model.proofs.Calls.{length-requests}
use Rattle.reprocess_core.proofs.device.request_count.Goals as goal

pub returns : goal.returns
returns c = let all = length-requests c.args.plan.now.commands in grind (arith, common_steps, all)

pub loop-command-preserved : goal.loop-command-preserved
loop-command-preserved c = grind (arith, common_steps)

pub overflow_add-count : goal.overflow_add-count
overflow_add-count c = grind (arith, elements)
