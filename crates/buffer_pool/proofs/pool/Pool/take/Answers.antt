use Rattle.std.proofs.Common.{◌+◌}
use Rattle.buffer_pool.specs.Slots.{homes}
use Rattle.buffer_pool.proofs.HomeLemmas.{first-own, least-first}
use Rattle.buffer_pool.proofs.SlotLemmas.{rises-placed}
use Rattle.buffer_pool.proofs.pool.Pool.take.Goals as goal

pub returns-clause-own : goal.returns-clause-own
returns-clause-own c =
    let first = c.self.inside.first.0 in
    let end = c.self.inside.first.0 + c.self.inside.count in
    rw (c.take_first.ensures.value, ← c.self.view_is) (first-own (homes c.self.inside.slots) first end (rises-placed c.self.inside.slots first end c.self.invariant.placed))

pub returns-clause-least : goal.returns-clause-least
returns-clause-least c =
    rw (c.take_first.ensures.value, ← c.self.view_is) (least-first (homes c.self.inside.slots) _ _ (rises-placed c.self.inside.slots _ _ c.self.invariant.placed))

pub returns-clause-in_order : goal.returns-clause-in_order
returns-clause-in_order c =
    rises-placed c.take_first.new.slots _ _ (c.take_first.ensures.placed _ _ c.self.invariant.placed)
