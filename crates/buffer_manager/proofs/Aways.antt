-- What stands at the place of a buffer that the device has.
use Rattle.std.proofs.Common.{◌≡◌, ℕ, ◌-◌, true, List, Some, sym, ◌∙◌}
use Rattle.std.specs.Prelude.{slice_get}
use Rattle.std.proofs.lemmas.Option.{get_or_from_slice_get}
use Rattle.trace_model.specs.Place.{Device, is_at}
use Rattle.buffer_manager.specs.declared.slot.Slot.{Slot}
use Rattle.buffer_manager.specs.declared.slot.Slot.TheVariants.{Away}
use Rattle.buffer_manager.proofs.Spots.{away-at, place_at}

pub is-away : (first : ℕ) (slots : List Slot) (b : ℕ) (slot : Slot) → is_at (place_at first slots b) Device ≡ true → slice_get slots (b - first) ≡ Some slot → slot ≡ Away
is-away first slots b slot device here = sym (get_or_from_slice_get slots (b - first) slot Away here) ∙ (away-at first slots b device).here
