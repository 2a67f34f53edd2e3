use Rattle.std.proofs.Common.{refl}
use Rattle.buffer_manager.proofs.Spent.{last-spent}
use Rattle.buffer_manager.specs.Slots.{is_made_slot}
use Rattle.buffer_manager.proofs.scrap.scrap_slots.Goals as goal

pub loop-slot-init : goal.loop-slot-init
loop-slot-init c = record { same = refl; all_made = c.requires }

pub scrap_slot-requires : goal.scrap_slot-requires
scrap_slot-requires c =
    (last-spent is_made_slot c.args.late.now c.loop-slot.late c.loop-slot.slots.items c.pop.new.self.items c.in-Some.slot c.loop-slot.invariant c.in-Some.ensures.items).0

pub loop-slot-preserved : goal.loop-slot-preserved
loop-slot-preserved c =
    (last-spent is_made_slot c.args.late.now c.loop-slot.late c.loop-slot.slots.items c.pop.new.self.items c.in-Some.slot c.loop-slot.invariant c.in-Some.ensures.items).1 _ c.scrap_slot.ensures

pub returns : goal.returns
returns c = c.loop-slot.invariant.same
