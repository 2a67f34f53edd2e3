use Rattle.buffer_pool.proofs.SlotLemmas.{rises-placed}
use Rattle.buffer_pool.proofs.pool.Pool.format.Goals as goal

pub returns-clause-in_order : goal.returns-clause-in_order
returns-clause-in_order c = rw (← c.self.view_is) (rises-placed c.self.inside.slots _ _ c.self.invariant.placed)
