use Rattle.std.proofs.Common.{arith}
use Rattle.std.proofs.lemmas.Grind.{common_steps}
use Rattle.picture_stages.proofs.narrow.write_second_differences.Goals as goal

pub slice_bounds-blues-end-2 : goal.slice_bounds-blues-end-2
slice_bounds-blues-end-2 c = grind (arith, common_steps)

pub slice_bounds-take_seconds-end : goal.slice_bounds-take_seconds-end
slice_bounds-take_seconds-end c = grind (arith, common_steps)

pub take_seconds-requires : goal.take_seconds-requires
take_seconds-requires c = grind (arith, common_steps)

pub slice_bounds-reds-end-2 : goal.slice_bounds-reds-end-2
slice_bounds-reds-end-2 c = grind (arith, common_steps)

pub slice_bounds-take_seconds-end-2 : goal.slice_bounds-take_seconds-end-2
slice_bounds-take_seconds-end-2 c = grind (arith, common_steps)

pub take_seconds-requires-2 : goal.take_seconds-requires-2
take_seconds-requires-2 c = grind (arith, common_steps)

pub returns-clause-blue : goal.returns-clause-blue
returns-clause-blue c = grind (arith, common_steps)

pub returns-clause-red : goal.returns-clause-red
returns-clause-red c = grind (arith, common_steps)
