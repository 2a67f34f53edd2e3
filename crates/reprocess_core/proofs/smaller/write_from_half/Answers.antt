use Rattle.std.proofs.Common.{arith, rules}
use Rattle.std.proofs.lemmas.Grind.{common_steps}
use Rattle.reprocess_model.specs.Reduce.{reduced_to}
use Rattle.reprocess_core.proofs.smaller.write_from_half.Goals as goal

pub returns-in-80 : goal.returns-in-80
unfolding reduced_to
returns-in-80 c = search rules

pub returns-in_default : goal.returns-in_default
unfolding reduced_to
returns-in_default c = grind (arith, common_steps)
