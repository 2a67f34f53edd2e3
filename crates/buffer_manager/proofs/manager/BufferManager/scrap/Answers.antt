use Rattle.buffer_pool.specs.Fences.{made}
use Rattle.buffer_manager.proofs.Ends.{made-slots, streams-wait}
use Rattle.buffer_manager.proofs.manager.BufferManager.scrap.Goals as goal

pub scrap_streams-requires : goal.scrap_streams-requires
scrap_streams-requires c =
    let m = c.self.inside in
    streams-wait (made c.args.fences.now) m.first m.streams.items m.slots.items c.self.invariant.0 (rw (← c.self.view_is) at c.requires)

pub scrap_slots-requires : goal.scrap_slots-requires
scrap_slots-requires c =
    let m = c.self.inside in
    made-slots m.late.signalled m.slots.items c.self.invariant.1.timely
