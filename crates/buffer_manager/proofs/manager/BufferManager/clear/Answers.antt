use Rattle.buffer_pool.specs.Fences.{made}
use Rattle.buffer_manager.proofs.Closes.{all-closable, homes-are}
use Rattle.buffer_manager.proofs.manager.BufferManager.clear.Goals as goal

pub close_streams-requires-clause-closable : goal.close_streams-requires-clause-closable
close_streams-requires-clause-closable c =
    let m = c.self.inside in
    all-closable (made c.args.fences.now) m.first m.streams.items m.slots.items c.self.invariant.0 (rw (← c.self.view_is) at c.requires.home) (rw (← c.self.view_is) at c.requires.given)

pub clear_slots-requires : goal.clear_slots-requires
clear_slots-requires c = homes-are c.self.inside.slots.items (rw (← c.self.view_is) at c.requires.home)
