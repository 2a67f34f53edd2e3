use Rattle.std.proofs.Common.{None, Some, sym, ap, ◌∙◌}
use Rattle.trace_model.specs.Place.{Place, Pool, is_at}
use Rattle.buffer_manager.specs.Slots.{place_of}
use Rattle.buffer_manager.proofs.Seen.{read-of}
use Rattle.buffer_manager.proofs.manager.BufferManager.is_in_pool.Goals as goal

pub returns-in-Some : goal.returns-in-Some
returns-in-Some c =
    let m = c.self.inside in
    let read = rw (c.in-Some.is, c.deref.ensures.value) at c.slot_of.ensures in
    rw (← c.self.view_is) (c.is_home.ensures ∙ ap (λ (p : Place). is_at p Pool) (sym (read-of place_of Pool m.first m.slots.items c.args.buffer (Some c.in-Some.slot.now) read)))

pub returns-in-None : goal.returns-in-None
returns-in-None c =
    let m = c.self.inside in
    let read = rw (c.in-None.is, c.deref.ensures.value) at c.slot_of.ensures in
    rw (← c.self.view_is) (ap (λ (p : Place). is_at p Pool) (sym (read-of place_of Pool m.first m.slots.items c.args.buffer None read)))
