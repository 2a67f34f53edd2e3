use Rattle.std.proofs.Common.{◌≡◌, ◌-◌, refl, ap, length}
use Rattle.std.specs.Prelude.{slice_set}
use Rattle.std.proofs.lemmas.List.{length-set, map-set}
use Rattle.trace_model.specs.Place.{Pool, is_at}
use Rattle.buffer_manager.specs.declared.slot.Slot.{Slot}
use Rattle.buffer_manager.specs.declared.slot.Slot.TheVariants.{Early}
use Rattle.buffer_manager.specs.Slots.{fence_of, held_of, picture_of, place_of}
use Rattle.buffer_manager.proofs.Moves.{kept-same, owner, stocked-away}
use Rattle.buffer_manager.proofs.Pictures.{timely-early}
use Rattle.buffer_manager.proofs.Spots.{away-at}
use Rattle.buffer_manager.proofs.Aways.{is-away}
use Rattle.buffer_manager.proofs.manager.BufferManager.deliver_early.Goals as goal

pub overflow_sub-place : goal.overflow_sub-place
overflow_sub-place c = (away-at c.self.inside.first c.self.inside.slots.items c.args.buffer.0 (rw (← c.self.view_is) at c.requires.device)).low

pub swap_slot-requires : goal.swap_slot-requires
swap_slot-requires c = (away-at c.self.inside.first c.self.inside.slots.items c.args.buffer.0 (rw (← c.self.view_is) at c.requires.device)).within

pub end_away-requires : goal.end_away-requires
end_away-requires c = is-away c.self.inside.first c.self.inside.slots.items c.args.buffer.0 c.swap_slot.result (rw (← c.self.view_is) at c.requires.device) c.swap_slot.ensures.old

pub invariant_of-self : goal.invariant_of-self
invariant_of-self c =
    let m = c.self.inside in
    let b = c.args.buffer.0 in
    let found = owner m.streams.items c.args.stream.0 b (rw (← c.self.view_is) at c.requires.own) in
    let away = away-at m.first m.slots.items b (rw (← c.self.view_is) at c.requires.device) in
    let d = length m.late.signalled in
    let items : c.swap_slot.new.slots.items ≡ slice_set m.slots.items (b - m.first) (Early (length m.late.signalled) (length m.late.signalled)) = rw (c.make_in-signaller.ensures.signaller, c.make_in-signaller.ensures.waiter) at c.swap_slot.ensures.new in
    let kept = c.self.invariant.0.stocked c.args.stream.0 found.stream found.at in
    let stocked = stocked-away m.first m.slots.items found.stream b (Early (length m.late.signalled) (length m.late.signalled)) away.low away.within (ap (λ x. is_at (place_of x) Pool) away.at) refl (ap fence_of away.at) refl kept in
    rw (items, c.make_in-signaller.ensures.made, c.swap_slot.ensures.capacity, length-set m.slots.items (b - m.first) (Early (length m.late.signalled) (length m.late.signalled))) (
      kept-same m.first m.streams.items m.slots.items c.args.stream.0 found.stream b (Early (length m.late.signalled) (length m.late.signalled)) c.self.invariant.0 found.at found.owns away.low stocked,
      timely-early m.late.signalled m.slots.items (b - m.first) c.self.invariant.1 away.within,
      c.self.invariant.2,
      c.self.invariant.3,
    )

pub returns-clause-moved : goal.returns-clause-moved
returns-clause-moved c =
    let m = c.self.inside in
    let b = c.args.buffer.0 in
    let v : Slot = Early (length m.late.signalled) (length m.late.signalled) in
    let items : c.swap_slot.new.slots.items ≡ slice_set m.slots.items (b - m.first) (Early (length m.late.signalled) (length m.late.signalled)) = rw (c.make_in-signaller.ensures.signaller, c.make_in-signaller.ensures.waiter) at c.swap_slot.ensures.new in
    rw (← c.self.view_is, items, c.make_in-signaller.ensures.made, c.number.ensures, c.make_in-signaller.ensures.waiter, map-set place_of m.slots.items (b - m.first) (Early (length m.late.signalled) (length m.late.signalled)), map-set fence_of m.slots.items (b - m.first) (Early (length m.late.signalled) (length m.late.signalled)), map-set held_of m.slots.items (b - m.first) (Early (length m.late.signalled) (length m.late.signalled)), map-set picture_of m.slots.items (b - m.first) (Early (length m.late.signalled) (length m.late.signalled))) refl
