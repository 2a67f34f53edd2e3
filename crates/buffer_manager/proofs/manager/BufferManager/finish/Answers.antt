use Rattle.std.proofs.Common.{◌≡◌, ◌-◌, ℕ, List, Some, true, refl, sym, ap, subst, ◌∙◌, Option}
use Rattle.std.specs.Prelude.{is_some, slice_get, slice_set}
use Rattle.std.proofs.lemmas.List.{length-set, set-set}
use Rattle.cam_types.specs.Shown.{Shown}
use Rattle.trace_model.specs.Place.{Pool, is_at}
use Rattle.buffer_manager.specs.declared.slot.Slot.{Slot}
use Rattle.buffer_manager.specs.declared.slot.Slot.TheVariants.{Away, Early, Late}
use Rattle.buffer_manager.specs.Slots.{awaited_of, fence_of, place_of}
use Rattle.buffer_manager.proofs.Lists.{get-here}
use Rattle.buffer_manager.proofs.Moves.{kept-same, owner, stocked-away, whole-at}
use Rattle.buffer_manager.proofs.Pictures.{early-at, timely-late}
use Rattle.buffer_manager.proofs.Seen.{picture-is-there}
use Rattle.buffer_manager.proofs.Spots.{client-at}
use Rattle.buffer_pool.specs.Fences.{with_signal}
use Rattle.buffer_manager.proofs.manager.BufferManager.finish.Goals as goal

some-is : {x y : Slot} → ◌≡◌ {A = Option Slot} (Some x) (Some y) → x ≡ y
some-is h = cc

first-is : {a b c d : ℕ} → Early a b ≡ Early c d → a ≡ c
first-is h = cc

second-is : {a b c d : ℕ} → Early a b ≡ Early c d → b ≡ d
second-is h = cc

-- the slot is empty, then the buffer is there, late
late-slots : (slots empty new : List Slot) (i s w d : ℕ) (pixels : Shown) → Early s w ≡ Early d d → empty ≡ slice_set slots i Away → new ≡ slice_set empty i (Late pixels w) → new ≡ slice_set slots i (Late pixels d)
late-slots slots empty new i s w d pixels early taken put =
    put ∙ rw (taken, second-is early) (set-set slots i Away (Late pixels d))

pub overflow_sub-place : goal.overflow_sub-place
overflow_sub-place c =
    rw c.id.ensures (client-at c.self.inside.first c.self.inside.slots.items c.args.pixels.id.0 (rw (← c.self.view_is) at c.requires.client)).low

pub swap_slot-requires : goal.swap_slot-requires
swap_slot-requires c =
    rw c.id.ensures (client-at c.self.inside.first c.self.inside.slots.items c.args.pixels.id.0 (rw (← c.self.view_is) at c.requires.client)).within

pub swap_slot-requires-2 : goal.swap_slot-requires-2
swap_slot-requires-2 c =
    rw (c.swap_slot.ensures.new, length-set, c.id.ensures) (client-at c.self.inside.first c.self.inside.slots.items c.args.pixels.id.0 (rw (← c.self.view_is) at c.requires.client)).within

pub take_early-signaller-requires : goal.take_early-signaller-requires
take_early-signaller-requires c =
    let m = c.self.inside in
    let early = early-at m.first m.slots.items m.late.signalled c.args.pixels.id.0 c.swap_slot.result c.self.invariant.1 (rw (← c.self.view_is) at c.requires.client) (rw (← c.self.view_is) at c.requires.awaited) (rw c.id.ensures at c.swap_slot.ensures.old) in
    subst (λ x. is_some (awaited_of x) ≡ true) (sym early.got) refl

pub end_away-requires : goal.end_away-requires
end_away-requires c =
    let m = c.self.inside in
    let old = rw c.id.ensures at c.swap_slot.ensures.old in
    let items : c.swap_slot.new.slots.items ≡ slice_set m.slots.items (c.args.pixels.id.0 - m.first) Away = rw c.id.ensures at c.swap_slot.ensures.new in
    let then' = rw (c.id.ensures, items) at c.swap_slot-2.ensures.old in
    some-is (sym then' ∙ get-here m.slots.items (c.args.pixels.id.0 - m.first) c.swap_slot.result Away old)

pub signal-requires : goal.signal-requires
signal-requires c =
    let m = c.self.inside in
    let early = early-at m.first m.slots.items m.late.signalled c.args.pixels.id.0 c.swap_slot.result c.self.invariant.1 (rw (← c.self.view_is) at c.requires.client) (rw (← c.self.view_is) at c.requires.awaited) (rw c.id.ensures at c.swap_slot.ensures.old) in
    let same = first-is (sym c.take_early-signaller.ensures ∙ early.got) in
    rw same early.made

pub invariant_of-self : goal.invariant_of-self
invariant_of-self c =
    let m = c.self.inside in
    let b = c.args.pixels.id.0 in
    let early = early-at m.first m.slots.items m.late.signalled c.args.pixels.id.0 c.swap_slot.result c.self.invariant.1 (rw (← c.self.view_is) at c.requires.client) (rw (← c.self.view_is) at c.requires.awaited) (rw c.id.ensures at c.swap_slot.ensures.old) in
    let found = owner m.streams.items c.args.stream.0 b (rw (← c.self.view_is) at c.requires.own) in
    let whole = whole-at m.streams.items c.args.stream.0 found.stream c.args.pixels found.at (rw (← c.self.view_is) at c.requires.whole) in
    let signaller = first-is (sym c.take_early-signaller.ensures ∙ early.got) in
    let is = late-slots m.slots.items c.swap_slot.new.slots.items c.swap_slot-2.new.slots.items (c.args.pixels.id.0 - m.first) c.take_early-signaller.result.0 c.take_early-signaller.result.1 early.device.0 c.args.pixels (sym c.take_early-signaller.ensures ∙ early.got) (rw c.id.ensures at c.swap_slot.ensures.new) (rw c.id.ensures at c.swap_slot-2.ensures.new) in
    let late : c.signal.new.self ≡ with_signal early.device.0 m.late = rw signaller at c.signal.ensures.signalled in
    let v : Slot = Late c.args.pixels early.device.0 in
    let kept = c.self.invariant.0.stocked c.args.stream.0 found.stream found.at in
    let stocked = stocked-away m.first m.slots.items found.stream b (Late c.args.pixels early.device.0) early.out.low early.out.within (ap (λ x. is_at (place_of x) Pool) early.at) refl (ap fence_of early.at) whole kept in
    rw (is, late, c.swap_slot-2.ensures.capacity, c.swap_slot.ensures.capacity, length-set m.slots.items (b - m.first) (Late c.args.pixels early.device.0)) (
      kept-same m.first m.streams.items m.slots.items c.args.stream.0 found.stream b (Late c.args.pixels early.device.0) c.self.invariant.0 found.at found.owns early.out.low stocked,
      timely-late m.late.signalled m.slots.items (b - m.first) early.device.0 c.args.pixels c.self.invariant.1 early.out.within early.here,
      c.self.invariant.2,
      c.self.invariant.3,
    )

pub returns-clause-fence : goal.returns-clause-fence
returns-clause-fence c =
    let m = c.self.inside in
    let early = early-at m.first m.slots.items m.late.signalled c.args.pixels.id.0 c.swap_slot.result c.self.invariant.1 (rw (← c.self.view_is) at c.requires.client) (rw (← c.self.view_is) at c.requires.awaited) (rw c.id.ensures at c.swap_slot.ensures.old) in
    let signaller = first-is (sym c.take_early-signaller.ensures ∙ early.got) in
    let number = c.signal.ensures.number ∙ signaller in
    rw (← c.self.view_is, number) early.held

pub returns-clause-picture : goal.returns-clause-picture
returns-clause-picture c =
    let m = c.self.inside in
    let b = c.args.pixels.id.0 in
    let early = early-at m.first m.slots.items m.late.signalled c.args.pixels.id.0 c.swap_slot.result c.self.invariant.1 (rw (← c.self.view_is) at c.requires.client) (rw (← c.self.view_is) at c.requires.awaited) (rw c.id.ensures at c.swap_slot.ensures.old) in
    let signaller = first-is (sym c.take_early-signaller.ensures ∙ early.got) in
    let is = late-slots m.slots.items c.swap_slot.new.slots.items c.swap_slot-2.new.slots.items (c.args.pixels.id.0 - m.first) c.take_early-signaller.result.0 c.take_early-signaller.result.1 early.device.0 c.args.pixels (sym c.take_early-signaller.ensures ∙ early.got) (rw c.id.ensures at c.swap_slot.ensures.new) (rw c.id.ensures at c.swap_slot-2.ensures.new) in
    let late : c.signal.new.self ≡ with_signal early.device.0 m.late = rw signaller at c.signal.ensures.signalled in
    let number = c.signal.ensures.number ∙ signaller in
    let old : slice_get m.slots.items (b - m.first) ≡ Some (Early early.device.0 early.device.0) = rw c.id.ensures at c.swap_slot.ensures.old ∙ ap Some early.got in
    rw (← c.self.view_is, number) (picture-is-there m.streams.items m.first m.slots.items c.swap_slot-2.new.slots.items m.late c.signal.new.self m.profile b early.device.0 c.args.pixels old is late)
