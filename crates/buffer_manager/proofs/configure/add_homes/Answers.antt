use Rattle.std.proofs.Common.{◌≡◌, ◌+◌, ◌++◌, ◌∷◌, [], List, None, refl, sym, ap, ◌∙◌, arith, length}
use Rattle.std.specs.Prelude.{replicate}
use Rattle.std.proofs.lemmas.List.{append-nil, append_assoc, length-append, length-replicate, replicate_more}
use Rattle.buffer_manager.specs.declared.slot.Slot.{Slot}
use Rattle.buffer_manager.specs.declared.slot.Slot.TheVariants.{Home}
use Rattle.buffer_manager.proofs.configure.add_homes.Goals as goal

pub loop-init : goal.loop-init
loop-init c = record { slots = sym (append-nil c.args.slots.now.items); capacity = refl; few = omega arith }

pub push_reserved-requires : goal.push_reserved-requires
push_reserved-requires c =
    let len = ap (λ (z : List Slot). length z) c.loop.invariant.slots ∙ (length-append c.args.slots.now.items (replicate c.loop.counter (Home None)) ∙ ap (λ n. length c.args.slots.now.items + n) (length-replicate c.loop.counter (Home None))) in
    let same = c.loop.invariant.capacity in
    let room = c.requires in
    let less = c.loop-test.true in
    omega (arith, len, same, room, less)

pub loop-preserved : goal.loop-preserved
loop-preserved c =
    let less = c.loop-test.true in record {
      slots = c.push_reserved.ensures.items ∙ (ap (λ (z : List Slot). z ++ Home None ∷ []) c.loop.invariant.slots ∙ (append_assoc c.args.slots.now.items (replicate c.loop.counter (Home None)) (Home None ∷ []) ∙ ap (λ (z : List Slot). c.args.slots.now.items ++ z) (replicate_more c.loop.counter (Home None))));
      capacity = c.push_reserved.ensures.capacity ∙ c.loop.invariant.capacity;
      few = omega (arith, less);
    }

pub returns-clause-slots : goal.returns-clause-slots
returns-clause-slots c =
    let few = c.loop.invariant.few in
    let end' = c.loop-test.false in
    let same : c.loop.counter ≡ c.args.count = omega (arith, few, end') in
    c.loop.invariant.slots ∙ ap (λ n. c.args.slots.now.items ++ replicate n (Home None)) same

pub returns-clause-capacity : goal.returns-clause-capacity
returns-clause-capacity c = c.loop.invariant.capacity
