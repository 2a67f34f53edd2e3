use Rattle.std.proofs.Common.{refl, ◌∙◌}
use Rattle.trace_model.specs.Place.{Pool, is_at}
use Rattle.buffer_manager.specs.declared.slot.Slot.{Slot}
use Rattle.buffer_manager.specs.Slots.{place_of}
use Rattle.buffer_manager.proofs.Spent.{all-last}
use Rattle.buffer_manager.proofs.configure.clear_slots.Goals as goal

pub loop-slot-init : goal.loop-slot-init
loop-slot-init c = record { home = c.requires; capacity = refl }

pub take_home-requires : goal.take_home-requires
take_home-requires c = (all-last (λ (v : Slot). is_at (place_of v) Pool) c.loop-slot.slots.items c.pop.new.self.items c.in-Some.slot c.in-Some.ensures.items c.loop-slot.invariant.home).0

pub loop-slot-preserved : goal.loop-slot-preserved
loop-slot-preserved c = record {
  home = (all-last (λ (v : Slot). is_at (place_of v) Pool) c.loop-slot.slots.items c.pop.new.self.items c.in-Some.slot c.in-Some.ensures.items c.loop-slot.invariant.home).1;
  capacity = c.pop.ensures.capacity ∙ c.loop-slot.invariant.capacity;
}

pub returns-clause-capacity : goal.returns-clause-capacity
returns-clause-capacity c = c.pop.ensures.capacity ∙ c.loop-slot.invariant.capacity
