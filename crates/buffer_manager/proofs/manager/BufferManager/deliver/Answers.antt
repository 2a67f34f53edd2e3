use Rattle.std.proofs.Common.{◌≡◌, ◌-◌, refl, ap}
use Rattle.std.specs.Prelude.{slice_set}
use Rattle.std.proofs.lemmas.List.{length-set, map-set}
use Rattle.trace_model.specs.Place.{Pool, is_at}
use Rattle.buffer_manager.specs.declared.slot.Slot.TheVariants.{Filled}
use Rattle.buffer_manager.specs.Slots.{fence_of, held_of, picture_of, place_of}
use Rattle.buffer_manager.proofs.Moves.{kept-same, owner, stocked-away, whole-at}
use Rattle.buffer_manager.proofs.Spots.{away-at, timely-plain}
use Rattle.buffer_manager.proofs.Aways.{is-away}
use Rattle.buffer_manager.proofs.manager.BufferManager.deliver.Goals as goal

pub overflow_sub-place : goal.overflow_sub-place
overflow_sub-place c = rw c.id.ensures (away-at c.self.inside.first c.self.inside.slots.items c.args.pixels.id.0 (rw (← c.self.view_is) at c.requires.device)).low

pub swap_slot-requires : goal.swap_slot-requires
swap_slot-requires c = rw c.id.ensures (away-at c.self.inside.first c.self.inside.slots.items c.args.pixels.id.0 (rw (← c.self.view_is) at c.requires.device)).within

pub end_away-requires : goal.end_away-requires
end_away-requires c = is-away c.self.inside.first c.self.inside.slots.items c.args.pixels.id.0 c.swap_slot.result (rw (← c.self.view_is) at c.requires.device) (rw c.id.ensures at c.swap_slot.ensures.old)

pub invariant_of-self : goal.invariant_of-self
invariant_of-self c =
    let m = c.self.inside in
    let b = c.args.pixels.id.0 in
    let found = owner m.streams.items c.args.stream.0 b (rw (← c.self.view_is) at c.requires.own) in
    let away = away-at m.first m.slots.items b (rw (← c.self.view_is) at c.requires.device) in
    let whole = whole-at m.streams.items c.args.stream.0 found.stream c.args.pixels found.at (rw (← c.self.view_is) at c.requires.whole) in
    let items : c.swap_slot.new.slots.items ≡ slice_set m.slots.items (b - m.first) (Filled c.args.pixels) = rw c.id.ensures at c.swap_slot.ensures.new in
    let kept = c.self.invariant.0.stocked c.args.stream.0 found.stream found.at in
    let stocked = stocked-away m.first m.slots.items found.stream b (Filled c.args.pixels) away.low away.within (ap (λ x. is_at (place_of x) Pool) away.at) refl (ap fence_of away.at) whole kept in
    let room = c.self.invariant.3 in
    rw (items, c.swap_slot.ensures.capacity, length-set m.slots.items (b - m.first) (Filled c.args.pixels)) (
      kept-same m.first m.streams.items m.slots.items c.args.stream.0 found.stream b (Filled c.args.pixels) c.self.invariant.0 found.at found.owns away.low stocked,
      timely-plain m.late.signalled m.slots.items (b - m.first) (Filled c.args.pixels) c.self.invariant.1 away.within refl refl,
      c.self.invariant.2,
      room,
    )

pub returns : goal.returns
returns c =
    let m = c.self.inside in
    let b = c.args.pixels.id.0 in
    let items : c.swap_slot.new.slots.items ≡ slice_set m.slots.items (b - m.first) (Filled c.args.pixels) = rw c.id.ensures at c.swap_slot.ensures.new in
    rw (← c.self.view_is, items, map-set place_of m.slots.items (b - m.first) (Filled c.args.pixels), map-set fence_of m.slots.items (b - m.first) (Filled c.args.pixels), map-set held_of m.slots.items (b - m.first) (Filled c.args.pixels), map-set picture_of m.slots.items (b - m.first) (Filled c.args.pixels)) refl
