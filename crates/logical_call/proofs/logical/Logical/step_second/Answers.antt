use Rattle.std.proofs.lemmas.Grind.{common_steps}
use Rattle.std.proofs.Common.{length, refl, take, arith}
use Rattle.logical_call.proofs.LogicalSides.{step-second}
use Rattle.logical_call.proofs.logical.Logical.step_second.Goals as goal

pub returns-clause-step : goal.returns-clause-step
returns-clause-step c =
    let f = c.self.inside.first in
    let s = c.self.inside.second in
    let choice = rw c.from.ensures at c.step-entry.ensures.made in
    let made = step-second f s c.step-entry.new.self c.args.number c.step-entry.result c.pair_after-paired.result (take (length c.trace-seen.result.now) c.trace-second.result.now) c.trace-first.result.now c.trace-second.result.now c.self.invariant.0 choice (rw (c.trace-seen.ensures, c.trace-second.ensures) refl) c.trace-first.ensures c.trace-second.ensures c.pair_after-paired.ensures in
    (refl, rw (← c.self.view_is) made)

pub slice_bounds-before-end : goal.slice_bounds-before-end
slice_bounds-before-end c = grind (arith, common_steps)
