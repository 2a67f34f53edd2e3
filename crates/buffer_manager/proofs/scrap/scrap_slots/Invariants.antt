use Rattle.std.proofs.Common.{length}
use Rattle.buffer_manager.specs.Slots.{is_made_slot}
use Rattle.buffer_manager.proofs.Spent.{AreLeft}
use Rattle.buffer_manager.proofs.scrap.scrap_slots.Given as goal

abbrev pub invariant-loop-slot : goal.invariant-loop-slot
invariant-loop-slot l = AreLeft is_made_slot l.initial.late l.late l.slots.items

abbrev pub decreases-loop-slot : goal.decreases-loop-slot
decreases-loop-slot l = length l.slots.items
