use Rattle.std.proofs.Common.{arith}
use Rattle.std.proofs.lemmas.Grind.{common_steps, elements}
use Rattle.run_model.proofs.bounds.frame_bound.Goals as goal

pub awaited_frames-requires : goal.awaited_frames-requires
awaited_frames-requires c = grind (arith, common_steps)

pub overflow_add-repeating : goal.overflow_add-repeating
overflow_add-repeating c = grind (arith, elements)

pub overflow_mul-repeating : goal.overflow_mul-repeating
overflow_mul-repeating c = grind (arith, elements)
