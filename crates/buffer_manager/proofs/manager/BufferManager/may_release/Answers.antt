use Rattle.std.proofs.Common.{None, refl, ◌∙◌}
use Rattle.trace_model.specs.Place.{Pool}
use Rattle.buffer_manager.specs.Slots.{place_of}
use Rattle.buffer_manager.proofs.Seen.{may-be, read-of}
use Rattle.buffer_manager.proofs.manager.BufferManager.may_release.Goals as goal

pub returns-in-Some : goal.returns-in-Some
returns-in-Some c =
    let m = c.self.inside in
    let read = rw (c.in-Some.is, c.deref.ensures.value) at c.slot_of.ensures in
    rw (← c.self.view_is) (c.has_picture.ensures ∙ may-be m.streams.items m.first m.slots.items m.late m.profile c.args.buffer.0 c.in-Some.slot.now c.self.invariant.1 read)

pub returns-in-None : goal.returns-in-None
returns-in-None c =
    let m = c.self.inside in
    let read = rw (c.in-None.is, c.deref.ensures.value) at c.slot_of.ensures in
    let pool = read-of place_of Pool m.first m.slots.items c.args.buffer.0 None read in
    rw (← c.self.view_is, pool) refl
