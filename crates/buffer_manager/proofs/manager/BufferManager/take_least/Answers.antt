use Rattle.std.proofs.Common.{◌≡◌, ℕ, ◌-◌, List, [], Option, None, Some, true, refl, sym, ap, subst, ◌∙◌, map, drop}
use Rattle.std.specs.Prelude.{IfNone, IfSome, slice_get, slice_index_or, slice_set}
use Rattle.std.proofs.lemmas.List.{length-set, map-set}
use Rattle.std.proofs.lemmas.Option.{get_or_from_slice_get}
use Rattle.trace_model.specs.Place.{Pool, is_at}
use Rattle.cam_types.specs.declared.number.FenceNo.{FenceNo}
use Rattle.buffer_pool.specs.Parked.{number}
use Rattle.buffer_pool.specs.declared.parked.Parked.{Parked}
use Rattle.state_facts.specs.Homes.{Homes}
use Rattle.buffer_manager.specs.Kept.{AreKept, AreLent, AreTimely}
use Rattle.buffer_manager.specs.declared.manager.BufferManager.TheInside.{Inside}
use Rattle.buffer_manager.specs.declared.slot.Slot.{Slot}
use Rattle.buffer_manager.specs.declared.slot.Slot.TheVariants.{Away, Home}
use Rattle.buffer_manager.specs.declared.stream.Stream.{Stream}
use Rattle.buffer_manager.specs.Managed.{fence_from, homes_with}
use Rattle.buffer_manager.specs.Slots.{fence_of, held_of, picture_of, place_of}
use Rattle.buffer_manager.specs.Streams.{with_home}
use Rattle.buffer_manager.proofs.Lists.{map-set-same, mapped-get}
use Rattle.buffer_manager.proofs.Takes.{IsMoved, IsSeen, IsTakenFrom, least-is, moved-away, none-for, others-stay, own-first, sent_for, taken-some, taken-with, target_for}
use Rattle.buffer_manager.proofs.manager.BufferManager.take_least.Goals as goal

-- the buffer that is taken, and what is left
record IsTaking (m : Inside) (new : List Stream) (k : ℕ) (p : Parked) : Type 0 where
  taken : IsTakenFrom m.streams.items new k p
  moved : IsMoved m.first m.streams.items new m.slots.items m.late.signalled m.profile m.blocks k p

taking : (m : Inside) → AreKept m.first m.streams.items m.slots.items → AreTimely m.late.signalled m.slots.items → AreLent m.profile m.streams.items m.blocks → (new : List Stream) (k : ℕ) (r : Option Parked) (p : Parked) → r ≡ Some p → IfSome (slice_get m.streams.items k) (λ s. r ≡ slice_get s.pool.home 0) → IfSome (slice_get m.streams.items k) (λ s. new ≡ slice_set m.streams.items k (with_home (drop 1 s.pool.home) s)) → IfNone (slice_get m.streams.items k) (r ≡ None) → IsTaking m new k p
taking m kept timely lent new k r p is value left gone =
    let taken = taken-some m.streams.items new k r p is value left gone in
    record { taken = taken; moved = moved-away m.first m.streams.items new m.slots.items m.late.signalled m.profile m.blocks k p kept timely lent taken }

-- the fence with which it was at home
home-fence : (slots : List Slot) (i : ℕ) (slot : Slot) (fence : Option FenceNo) (waiter : Option ℕ) → slice_get slots i ≡ Some slot → slot ≡ Home fence → fence_of (slice_index_or slots i Away) ≡ fence_from waiter → fence ≡ fence_from waiter
home-fence slots i slot fence waiter old home is =
    sym (ap fence_of home) ∙ (sym (ap fence_of (get_or_from_slice_get slots i slot Away old)) ∙ is)

pub returns-in_default-clause-sent : goal.returns-in_default-clause-sent
returns-in_default-clause-sent c =
    let m = c.self.inside in
    let seen : IsSeen (homes_with [] c.args.self.now) m.first m.streams.items m.slots.items = rw (← c.self.view_is) (record { made = refl; first_is = refl; places = refl; fences = refl }) in
    sym (least-is (homes_with [] c.args.self.now) m.first m.streams.items m.slots.items seen c.self.invariant.0 c.args.stream ∙ none-for m.streams.items c.args.stream c.take_from.result c.in_default.is c.take_from.ensures.value)

pub overflow_sub-place : goal.overflow_sub-place
overflow_sub-place c =
    let h = taking c.self.inside c.self.invariant.0 c.self.invariant.1 c.self.invariant.2 c.take_from.new.streams.items c.args.stream c.take_from.result c.in-Some.parked c.in-Some.is c.take_from.ensures.value c.take_from.ensures.left c.take_from.ensures.gone in
    rw c.id-buffer.ensures h.moved.low

pub swap_slot-requires : goal.swap_slot-requires
swap_slot-requires c =
    let h = taking c.self.inside c.self.invariant.0 c.self.invariant.1 c.self.invariant.2 c.take_from.new.streams.items c.args.stream c.take_from.result c.in-Some.parked c.in-Some.is c.take_from.ensures.value c.take_from.ensures.left c.take_from.ensures.gone in
    rw c.id-buffer.ensures h.moved.within

pub take_home-fence-requires : goal.take_home-fence-requires
take_home-fence-requires c =
    let m = c.self.inside in
    let h = taking m c.self.invariant.0 c.self.invariant.1 c.self.invariant.2 c.take_from.new.streams.items c.args.stream c.take_from.result c.in-Some.parked c.in-Some.is c.take_from.ensures.value c.take_from.ensures.left c.take_from.ensures.gone in
    let got = get_or_from_slice_get m.slots.items (number c.in-Some.parked - m.first) c.swap_slot.result Away (rw c.id-buffer.ensures at c.swap_slot.ensures.old) in
    subst (λ x. is_at (place_of x) Pool ≡ true) got h.moved.home

pub invariant_of-self-2 : goal.invariant_of-self-2
invariant_of-self-2 c =
    let m = c.self.inside in
    let h = taking m c.self.invariant.0 c.self.invariant.1 c.self.invariant.2 c.take_from.new.streams.items c.args.stream c.take_from.result c.in-Some.parked c.in-Some.is c.take_from.ensures.value c.take_from.ensures.left c.take_from.ensures.gone in
    let items : c.swap_slot.new.slots.items ≡ slice_set m.slots.items (number c.in-Some.parked - m.first) Away = rw c.id-buffer.ensures at c.swap_slot.ensures.new in
    rw (items, c.swap_slot.ensures.capacity, c.take_from.ensures.capacity, length-set m.slots.items (number c.in-Some.parked - m.first) Away) (h.moved.kept, h.moved.timely, h.moved.lent, c.self.invariant.3)

pub returns-clause-sent : goal.returns-clause-sent
returns-clause-sent c =
    let m = c.self.inside in
    let h = taking m c.self.invariant.0 c.self.invariant.1 c.self.invariant.2 c.take_from.new.streams.items c.args.stream c.take_from.result c.in-Some.parked c.in-Some.is c.take_from.ensures.value c.take_from.ensures.left c.take_from.ensures.gone in
    let fence = home-fence m.slots.items (number c.in-Some.parked - m.first) c.swap_slot.result c.take_home-fence.result c.in-Some.parked.waiter (rw c.id-buffer.ensures at c.swap_slot.ensures.old) c.take_home-fence.ensures h.moved.fence in
    let seen : IsSeen (homes_with [] c.args.self.now) m.first m.streams.items m.slots.items = rw (← c.self.view_is) (record { made = refl; first_is = refl; places = refl; fences = refl }) in
    let is = least-is (homes_with [] c.args.self.now) m.first m.streams.items m.slots.items seen c.self.invariant.0 c.args.stream ∙ (ap (target_for c.args.stream) h.taken.at ∙ ap (λ (h : List Parked). sent_for c.args.stream (slice_get h 0)) h.taken.home) in
    rw (c.id-buffer.ensures, fence) (sym is)

pub returns-clause-parked : goal.returns-clause-parked
returns-clause-parked c =
    let m = c.self.inside in
    let h = taking m c.self.invariant.0 c.self.invariant.1 c.self.invariant.2 c.take_from.new.streams.items c.args.stream c.take_from.result c.in-Some.parked c.in-Some.is c.take_from.ensures.value c.take_from.ensures.left c.take_from.ensures.gone in
    let fence = home-fence m.slots.items (number c.in-Some.parked - m.first) c.swap_slot.result c.take_home-fence.result c.in-Some.parked.waiter (rw c.id-buffer.ensures at c.swap_slot.ensures.old) c.take_home-fence.ensures h.moved.fence in
    let stocked = c.self.invariant.0.stocked c.args.stream h.taken.stream h.taken.at in
    let own = own-first h.taken.stream.spec h.taken.stream.pool.home h.taken.rest c.in-Some.parked h.taken.home stocked.own in
    let spec = mapped-get (λ (s : Stream). s.spec) m.streams.items c.args.stream h.taken.stream h.taken.at in
    rw (c.id-buffer.ensures, fence, ← c.self.view_is, spec) (taken-with h.taken.stream.spec c.args.stream c.in-Some.parked own)

pub returns-clause-moved : goal.returns-clause-moved
returns-clause-moved c =
    let m = c.self.inside in
    let h = taking m c.self.invariant.0 c.self.invariant.1 c.self.invariant.2 c.take_from.new.streams.items c.args.stream c.take_from.result c.in-Some.parked c.in-Some.is c.take_from.ensures.value c.take_from.ensures.left c.take_from.ensures.gone in
    let items : c.swap_slot.new.slots.items ≡ slice_set m.slots.items (number c.in-Some.parked - m.first) Away = rw c.id-buffer.ensures at c.swap_slot.ensures.new in
    let made = map-set-same (λ (s : Stream). s.made) m.streams.items c.args.stream h.taken.stream (with_home h.taken.rest h.taken.stream) h.taken.at refl in
    let specs = map-set-same (λ (s : Stream). s.spec) m.streams.items c.args.stream h.taken.stream (with_home h.taken.rest h.taken.stream) h.taken.at refl in
    rw (c.id-buffer.ensures, ← c.self.view_is, h.taken.left, items, made, specs, map-set place_of m.slots.items (number c.in-Some.parked - m.first) Away, map-set fence_of m.slots.items (number c.in-Some.parked - m.first) Away, map-set held_of m.slots.items (number c.in-Some.parked - m.first) Away, map-set picture_of m.slots.items (number c.in-Some.parked - m.first) Away) refl

pub returns-clause-others : goal.returns-clause-others
returns-clause-others c =
    let m = c.self.inside in
    let h = taking m c.self.invariant.0 c.self.invariant.1 c.self.invariant.2 c.take_from.new.streams.items c.args.stream c.take_from.result c.in-Some.parked c.in-Some.is c.take_from.ensures.value c.take_from.ensures.left c.take_from.ensures.gone in
    let items : c.swap_slot.new.slots.items ≡ slice_set m.slots.items (number c.in-Some.parked - m.first) Away = rw c.id-buffer.ensures at c.swap_slot.ensures.new in
    let seen : IsSeen (homes_with [] c.args.self.now) m.first m.streams.items m.slots.items = rw (← c.self.view_is) (record { made = refl; first_is = refl; places = refl; fences = refl }) in
    let homes' : Homes = record {
      made = map (λ (s : Stream). s.made) c.take_from.new.streams.items;
      first = m.first;
      places = map place_of c.swap_slot.new.slots.items;
      fences = map fence_of c.swap_slot.new.slots.items;
      signalled = [];
      held = map held_of c.swap_slot.new.slots.items;
      late = m.late.signalled;
    } in
    let seen' : IsSeen homes' m.first c.take_from.new.streams.items (slice_set m.slots.items (number c.in-Some.parked - m.first) Away) = record {
      made = refl;
      first_is = refl;
      places = ap (λ (z : List Slot). map place_of z) items;
      fences = ap (λ (z : List Slot). map fence_of z) items;
    } in
    others-stay (homes_with [] c.args.self.now) homes' m.first m.streams.items c.take_from.new.streams.items m.slots.items (slice_set m.slots.items (number c.in-Some.parked - m.first) Away) c.args.stream c.in-Some.parked seen seen' c.self.invariant.0 h.moved.kept h.taken
