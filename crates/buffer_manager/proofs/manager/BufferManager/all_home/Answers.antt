use Rattle.std.proofs.Common.{refl, sym, ap, ◌∙◌}
use Rattle.std.specs.List.{list_all}
use Rattle.trace_model.specs.Place.{Place, Pool, is_at}
use Rattle.basic_lemmas.proofs.Lists.{all-mapped}
use Rattle.buffer_manager.specs.declared.slot.Slot.{Slot}
use Rattle.buffer_manager.specs.Slots.{place_of}
use Rattle.buffer_manager.proofs.manager.BufferManager.all_home.Goals as goal

pub returns : goal.returns
returns c =
    c.are_home.ensures ∙ (ap (list_all (λ (slot : Slot). is_at (place_of slot) Pool)) c.deref.ensures.value ∙ (sym (all-mapped (λ (p : Place). is_at p Pool) place_of c.self.inside.slots.items) ∙ rw (← c.self.view_is) refl))
