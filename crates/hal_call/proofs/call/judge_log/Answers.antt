use Rattle.std.proofs.Common.{arith}
use Rattle.std.proofs.lemmas.Grind.{common_steps}
use Rattle.hal_call.proofs.call.judge_log.Goals as goal

pub told_text-requires-clause-lines : goal.told_text-requires-clause-lines
told_text-requires-clause-lines c = grind (arith, common_steps)
