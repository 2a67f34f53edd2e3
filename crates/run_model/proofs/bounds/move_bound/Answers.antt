use Rattle.std.proofs.Common.{arith}
use Rattle.std.proofs.lemmas.Grind.{elements}
use Rattle.run_model.proofs.bounds.move_bound.Goals as goal

pub overflow_add-calls : goal.overflow_add-calls
overflow_add-calls c = grind (arith, elements)

pub overflow_mul-calls : goal.overflow_mul-calls
overflow_mul-calls c = grind (arith, elements)

pub overflow_add-calls-2 : goal.overflow_add-calls-2
overflow_add-calls-2 c = grind (arith, elements)
