use Rattle.std.proofs.Common.{arith}
use Rattle.std.proofs.lemmas.Grind.{common_steps}
use Rattle.play_calls.proofs.judge.judge_input.Goals as goal

pub judge_text_of-requires-clause-long : goal.judge_text_of-requires-clause-long
judge_text_of-requires-clause-long c = grind (arith, common_steps)
