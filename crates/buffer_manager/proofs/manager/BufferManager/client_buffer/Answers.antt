use Rattle.std.proofs.Common.{None, Some, sym, ◌∙◌}
use Rattle.buffer_manager.specs.Slots.{picture_of}
use Rattle.buffer_manager.proofs.Seen.{read-of}
use Rattle.buffer_manager.proofs.manager.BufferManager.client_buffer.Goals as goal

pub returns-in-Some : goal.returns-in-Some
returns-in-Some c =
    let m = c.self.inside in
    let read = rw (c.in-Some.is, c.deref.ensures.value) at c.slot_of.ensures in
    rw (← c.self.view_is) (c.picture_of.ensures ∙ sym (read-of picture_of None m.first m.slots.items c.args.buffer.0 (Some c.in-Some.slot.now) read))

pub returns-in-None : goal.returns-in-None
returns-in-None c =
    let m = c.self.inside in
    let read = rw (c.in-None.is, c.deref.ensures.value) at c.slot_of.ensures in
    rw (← c.self.view_is) (sym (read-of picture_of None m.first m.slots.items c.args.buffer.0 None read))
