use Rattle.std.proofs.Common.{sym, refl}
use Rattle.buffer_pool.proofs.SlotLemmas.{first-left, first-value, homes-none, stand_in-freed}
use Rattle.buffer_pool.proofs.slots.take_first.Goals as goal

pub returns-in_err-place-clause-value : goal.returns-in_err-place-clause-value
returns-in_err-place-clause-value c =
    let none = homes-none c.args.slots.now 0 (sym c.in_err-place.ensures.value) in rw (c.from_residual.ensures, none) refl

pub returns-in_err-place-clause-left : goal.returns-in_err-place-clause-left
returns-in_err-place-clause-left c = let none = homes-none c.args.slots.now 0 (sym c.in_err-place.ensures.value) in rw none refl

pub returns-clause-value : goal.returns-clause-value
returns-clause-value c =
    first-value c.args.slots.now c.in_ok-place.place c.take.result c.index-slots-place.result (sym c.in_ok-place.ensures.value) c.take.ensures.value

pub returns-clause-left : goal.returns-clause-left
returns-clause-left c =
    rw c.take.ensures.after (first-left c.args.slots.now c.in_ok-place.place (sym c.in_ok-place.ensures.value))

pub returns-clause-placed : goal.returns-clause-placed
returns-clause-placed c =
    λ n end h. rw c.take.ensures.after (stand_in-freed c.args.slots.now c.in_ok-place.place n end h)
