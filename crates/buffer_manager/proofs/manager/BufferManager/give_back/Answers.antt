use Rattle.std.proofs.Common.{◌≡◌, ℕ, ◌-◌, true, refl, ap}
use Rattle.std.specs.Prelude.{slice_get, slice_set}
use Rattle.std.proofs.lemmas.List.{length-set, map-set}
use Rattle.trace_model.specs.Place.{Device, Pool, is_at}
use Rattle.buffer_pool.specs.declared.parked.Parked.{Parked}
use Rattle.buffer_manager.specs.Kept.{AreKept}
use Rattle.buffer_manager.specs.declared.manager.BufferManager.TheInside.{Inside}
use Rattle.buffer_manager.specs.declared.slot.Slot.{Slot}
use Rattle.buffer_manager.specs.declared.slot.Slot.TheVariants.{Home}
use Rattle.buffer_manager.specs.declared.stream.Stream.{Stream}
use Rattle.buffer_manager.specs.Managed.{fence_from}
use Rattle.buffer_manager.specs.Slots.{fence_of, held_of, picture_of, place_of}
use Rattle.buffer_manager.specs.Streams.{MayGive, with_given}
use Rattle.buffer_manager.proofs.Lists.{map-set-same}
use Rattle.buffer_manager.proofs.Moves.{Found, kept-moved, lent-set, owner, whole-at}
use Rattle.buffer_manager.proofs.Pools.{may-give, stocked-given}
use Rattle.buffer_manager.proofs.Spots.{away-at, place_at, timely-plain}
use Rattle.buffer_manager.proofs.Aways.{is-away}
use Rattle.buffer_manager.proofs.manager.BufferManager.give_back.Goals as goal

-- the pool of a buffer that is at the device takes it
may-come : (m : Inside) (k : ℕ) (parked : Parked) → AreKept m.first m.streams.items m.slots.items → Found m.streams.items k parked.pixels.id.0 → is_at (place_at m.first m.slots.items parked.pixels.id.0) Device ≡ true → MayGive parked (slice_get m.streams.items k)
may-come m k parked kept found device =
    let away = away-at m.first m.slots.items parked.pixels.id.0 device in
    rw found.at (may-give m.first m.slots.items found.stream parked (kept.stocked k found.stream found.at) found.owns (ap (λ x. is_at (place_of x) Pool) away.at))

pub give_to-requires : goal.give_to-requires
give_to-requires c =
    let m = c.self.inside in
    let found = owner m.streams.items c.args.stream.0 c.args.parked.pixels.id.0 (rw (← c.self.view_is) at c.requires.own) in
    may-come m c.args.stream.0 c.args.parked c.self.invariant.0 found (rw (← c.self.view_is) at c.requires.device)

pub overflow_sub-place : goal.overflow_sub-place
overflow_sub-place c = rw c.id.ensures (away-at c.self.inside.first c.self.inside.slots.items c.args.parked.pixels.id.0 (rw (← c.self.view_is) at c.requires.device)).low

pub swap_slot-requires : goal.swap_slot-requires
swap_slot-requires c = rw c.id.ensures (away-at c.self.inside.first c.self.inside.slots.items c.args.parked.pixels.id.0 (rw (← c.self.view_is) at c.requires.device)).within

pub end_away-requires : goal.end_away-requires
end_away-requires c = is-away c.self.inside.first c.self.inside.slots.items c.args.parked.pixels.id.0 c.swap_slot.result (rw (← c.self.view_is) at c.requires.device) (rw c.id.ensures at c.swap_slot.ensures.old)

pub invariant_of-self : goal.invariant_of-self
invariant_of-self c =
    let m = c.self.inside in
    let b = c.args.parked.pixels.id.0 in
    let found = owner m.streams.items c.args.stream.0 b (rw (← c.self.view_is) at c.requires.own) in
    let away = away-at m.first m.slots.items b (rw (← c.self.view_is) at c.requires.device) in
    let whole = whole-at m.streams.items c.args.stream.0 found.stream c.args.parked.pixels found.at (rw (← c.self.view_is) at c.requires.whole) in
    let v : Slot = Home (fence_from c.args.parked.waiter) in
    let items : c.swap_slot.new.slots.items ≡ slice_set m.slots.items (b - m.first) (Home (fence_from c.args.parked.waiter)) = rw (c.id.ensures, c.fence_number-fence.ensures) at c.swap_slot.ensures.new in
    let kept = c.self.invariant.0.stocked c.args.stream.0 found.stream found.at in
    let stocked = stocked-given m.first m.slots.items found.stream c.args.parked kept found.owns away.low away.within (ap (λ x. is_at (place_of x) Pool) away.at) whole in
    let given = rw found.at at c.give_to.ensures.given in
    rw (given, items, c.swap_slot.ensures.capacity, c.give_to.ensures.capacity, length-set m.slots.items (b - m.first) (Home (fence_from c.args.parked.waiter))) (
      kept-moved m.first m.streams.items m.slots.items c.args.stream.0 found.stream (with_given c.args.parked found.stream) b (Home (fence_from c.args.parked.waiter)) c.self.invariant.0 found.at found.owns away.low refl stocked,
      timely-plain m.late.signalled m.slots.items (b - m.first) (Home (fence_from c.args.parked.waiter)) c.self.invariant.1 away.within refl refl,
      lent-set m.profile m.streams.items m.blocks c.args.stream.0 found.stream (with_given c.args.parked found.stream) found.at refl refl c.self.invariant.2,
      c.self.invariant.3,
    )

pub returns : goal.returns
returns c =
    let m = c.self.inside in
    let b = c.args.parked.pixels.id.0 in
    let found = owner m.streams.items c.args.stream.0 b (rw (← c.self.view_is) at c.requires.own) in
    let items : c.swap_slot.new.slots.items ≡ slice_set m.slots.items (b - m.first) (Home (fence_from c.args.parked.waiter)) = rw (c.id.ensures, c.fence_number-fence.ensures) at c.swap_slot.ensures.new in
    let given = rw found.at at c.give_to.ensures.given in
    let t = with_given c.args.parked found.stream in
    rw (← c.self.view_is, given, items, map-set-same (λ (s : Stream). s.made) m.streams.items c.args.stream.0 found.stream (with_given c.args.parked found.stream) found.at refl, map-set-same (λ (s : Stream). s.spec) m.streams.items c.args.stream.0 found.stream (with_given c.args.parked found.stream) found.at refl, map-set place_of m.slots.items (b - m.first) (Home (fence_from c.args.parked.waiter)), map-set fence_of m.slots.items (b - m.first) (Home (fence_from c.args.parked.waiter)), map-set held_of m.slots.items (b - m.first) (Home (fence_from c.args.parked.waiter)), map-set picture_of m.slots.items (b - m.first) (Home (fence_from c.args.parked.waiter))) refl
