use Rattle.std.proofs.Common.{◌≡◌, ℕ, ◌+◌, ◌-◌, [], None, Some, true, refl, sym, ap, subst, ◌∙◌, arith, length}
use Rattle.std.specs.List.{position_from}
use Rattle.std.specs.Prelude.{slice_get, slice_index_or, slice_set}
use Rattle.cam_types.specs.Shown.{Shown}
use Rattle.trace_model.specs.Configuration.{is_made}
use Rattle.std.proofs.lemmas.List.{length-set}
use Rattle.std.proofs.lemmas.Option.{get_or_from_slice_get}
use Rattle.trace_model.specs.Place.{Client, Pool, is_at}
use Rattle.buffer_manager.specs.Kept.{AreKept, AreLent, AreTimely}
use Rattle.buffer_manager.specs.declared.manager.BufferManager.TheInside.{Inside}
use Rattle.buffer_manager.specs.declared.slot.Slot.{Slot}
use Rattle.buffer_manager.specs.declared.slot.Slot.TheVariants.{Away, Home}
use Rattle.buffer_manager.specs.declared.stream.Stream.{Stream}
use Rattle.buffer_manager.specs.Managed.{homes_with, moved}
use Rattle.buffer_manager.specs.Slots.{has_picture, is_sound, is_timely, pixels_of, place_of}
use Rattle.buffer_manager.specs.Streams.{with_given}
use Rattle.buffer_manager.proofs.Moves.{Found}
use Rattle.buffer_manager.proofs.Owners.{Returned, returned, stream-found, stream-there}
use Rattle.buffer_manager.proofs.Pictures.{held-at, number-is, picture-there, pixels-own, release-parts, renumbered}
use Rattle.buffer_manager.proofs.Seen.{moved-is, stream-same}
use Rattle.buffer_manager.proofs.Spots.{client-at, place_at}
use Rattle.buffer_manager.proofs.manager.BufferManager.release.Goals as goal

-- the stream that the buffer comes back to, and what is left
record IsReleasing (m : Inside) (b k : ℕ) (pixels : Shown) (waiter : ℕ) : Type 0 where
  found : Found m.streams.items k b
  back : Returned m.first b k m.streams.items m.slots.items m.late.signalled m.profile m.blocks (record { pixels = pixels; waiter = Some waiter }) found.stream

releasing : (m : Inside) → AreKept m.first m.streams.items m.slots.items → AreTimely m.late.signalled m.slots.items → AreLent m.profile m.streams.items m.blocks → (b k : ℕ) → is_at (place_at m.first m.slots.items b) Client ≡ true → position_from (λ (s : Stream). is_made b s.made) 0 m.streams.items ≡ Some k → (slot : Slot) → slice_get m.slots.items (b - m.first) ≡ Some slot → (pixels : Shown) → pixels_of slot ≡ Some pixels → (waiter : ℕ) → IsReleasing m b k pixels waiter
releasing m kept timely lent b k client is slot old pixels taken waiter =
    let out = client-at m.first m.slots.items b client in
    let found = stream-found b k m.streams.items is in
    let at = out.at ∙ get_or_from_slice_get m.slots.items (b - m.first) slot Away old in
    let sound : is_sound found.stream.spec b slot ≡ true = ap (is_sound found.stream.spec b) (sym at) ∙ (kept.stocked k found.stream found.at).sound b found.owns.low found.owns.high in
    let own = pixels-own found.stream.spec b slot pixels sound taken in
    record {
      found = found;
      back = returned m.first b k m.streams.items m.slots.items m.late.signalled m.profile m.blocks (record { pixels = pixels; waiter = Some waiter }) found (number-is found.stream.spec b pixels own) kept timely lent out.low out.within (ap (λ x. is_at (place_of x) Pool) out.at ∙ ap (λ x. is_at x Pool) out.here) (renumbered found.stream.spec b pixels own);
    }

pub unreachable-requires : goal.unreachable-requires
unreachable-requires c =
    let m = c.self.inside in
    let may = release-parts (homes_with [] c.args.self.now) c.args.buffer.0 c.requires.may in
    let out = client-at m.first m.slots.items c.args.buffer.0 (rw (← c.self.view_is) at may.0) in
    let low = out.low in
    let within = out.within in
    stream-there (m.first + length m.slots.items) m.first c.args.buffer.0 0 m.streams.items c.self.invariant.0.in_turn low (omega (arith, low, within)) (rw c.deref.ensures.value at (sym c.stream_of.ensures ∙ c.in_default.is))

pub overflow_sub-place : goal.overflow_sub-place
overflow_sub-place c =
    (client-at c.self.inside.first c.self.inside.slots.items c.args.buffer.0 (rw (← c.self.view_is) at (release-parts (homes_with [] c.args.self.now) c.args.buffer.0 c.requires.may).0)).low

pub swap_slot-slot-requires : goal.swap_slot-slot-requires
swap_slot-slot-requires c =
    (client-at c.self.inside.first c.self.inside.slots.items c.args.buffer.0 (rw (← c.self.view_is) at (release-parts (homes_with [] c.args.self.now) c.args.buffer.0 c.requires.may).0)).within

pub take_pixels-requires-clause-picture : goal.take_pixels-requires-clause-picture
take_pixels-requires-clause-picture c =
    let m = c.self.inside in
    let may = release-parts (homes_with [] c.args.self.now) c.args.buffer.0 c.requires.may in
    let out = client-at m.first m.slots.items c.args.buffer.0 (rw (← c.self.view_is) at may.0) in
    let there = rw (← c.self.view_is) at may.1 in
    let pict = picture-there m.late.signalled (slice_index_or m.slots.items (c.args.buffer.0 - m.first) Away) (c.self.invariant.1.timely (c.args.buffer.0 - m.first)) out.here (λ d h. there d (held-at m.slots.items (c.args.buffer.0 - m.first) out.within ∙ h)) in
    let is = get_or_from_slice_get m.slots.items (c.args.buffer.0 - m.first) c.swap_slot-slot.result Away c.swap_slot-slot.ensures.old in
    subst (λ x. has_picture x ≡ true) is pict

pub take_pixels-requires-clause-timely : goal.take_pixels-requires-clause-timely
take_pixels-requires-clause-timely c =
    let m = c.self.inside in
    let is = get_or_from_slice_get m.slots.items (c.args.buffer.0 - m.first) c.swap_slot-slot.result Away c.swap_slot-slot.ensures.old in
    subst (λ x. is_timely m.late.signalled x ≡ true) is (c.self.invariant.1.timely (c.args.buffer.0 - m.first))

pub give_to-requires : goal.give_to-requires
give_to-requires c =
    let m = c.self.inside in
    let b = c.args.buffer.0 in
    let h = releasing m c.self.invariant.0 c.self.invariant.1 c.self.invariant.2 b c.in-Some.stream (rw (← c.self.view_is) at (release-parts (homes_with [] c.args.self.now) b c.requires.may).0) (rw c.deref.ensures.value at (sym c.stream_of.ensures ∙ c.in-Some.is)) c.swap_slot-slot.result c.swap_slot-slot.ensures.old c.take_pixels.result c.take_pixels.ensures.pixels c.args.waiter in
    h.back.may

pub invariant_of-self : goal.invariant_of-self
invariant_of-self c =
    let m = c.self.inside in
    let b = c.args.buffer.0 in
    let h = releasing m c.self.invariant.0 c.self.invariant.1 c.self.invariant.2 b c.in-Some.stream (rw (← c.self.view_is) at (release-parts (homes_with [] c.args.self.now) b c.requires.may).0) (rw c.deref.ensures.value at (sym c.stream_of.ensures ∙ c.in-Some.is)) c.swap_slot-slot.result c.swap_slot-slot.ensures.old c.take_pixels.result c.take_pixels.ensures.pixels c.args.waiter in
    let items : c.swap_slot-slot.new.slots.items ≡ slice_set m.slots.items (b - m.first) (Home (Some (record { 0 = c.args.waiter }))) = rw c.number.ensures at c.swap_slot-slot.ensures.new in
    let given = rw h.found.at at c.give_to.ensures.given in
    rw (given, items, c.take_pixels.ensures.late, c.swap_slot-slot.ensures.capacity, c.give_to.ensures.capacity, length-set m.slots.items (b - m.first) (Home (Some (record { 0 = c.args.waiter })))) (h.back.kept, h.back.timely, h.back.lent, c.self.invariant.3)

pub returns : goal.returns
returns c =
    let m = c.self.inside in
    let b = c.args.buffer.0 in
    let h = releasing m c.self.invariant.0 c.self.invariant.1 c.self.invariant.2 b c.in-Some.stream (rw (← c.self.view_is) at (release-parts (homes_with [] c.args.self.now) b c.requires.may).0) (rw c.deref.ensures.value at (sym c.stream_of.ensures ∙ c.in-Some.is)) c.swap_slot-slot.result c.swap_slot-slot.ensures.old c.take_pixels.result c.take_pixels.ensures.pixels c.args.waiter in
    let items : c.swap_slot-slot.new.slots.items ≡ slice_set m.slots.items (b - m.first) (Home (Some (record { 0 = c.args.waiter }))) = rw c.number.ensures at c.swap_slot-slot.ensures.new in
    let given = rw h.found.at at c.give_to.ensures.given in
    rw (← c.self.view_is, given, c.take_pixels.ensures.late) (
    moved-is (slice_set m.streams.items c.in-Some.stream (with_given (record { pixels = c.take_pixels.result; waiter = Some c.args.waiter }) h.found.stream)) m.first m.slots.items c.swap_slot-slot.new.slots.items m.late m.profile b (Home (Some (record { 0 = c.args.waiter }))) items
    ∙ ap (moved b Pool (Some (record { 0 = c.args.waiter })) None None) (stream-same m.streams.items m.first m.slots.items m.late m.profile c.in-Some.stream h.found.stream (with_given (record { pixels = c.take_pixels.result; waiter = Some c.args.waiter }) h.found.stream) h.found.at refl refl)
    )
