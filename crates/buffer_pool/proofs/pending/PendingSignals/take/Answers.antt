use Rattle.std.proofs.Common.{ℕ, refl, sym, ap, ◌∙◌, arith, length, List}
use Rattle.std.proofs.lemmas.Bool.{false≢true}
use Rattle.std.proofs.lemmas.List.Edits.{length-remove}
use Rattle.buffer_pool.proofs.PendingLemmas.{absent, ascends-without, found}
use Rattle.buffer_pool.specs.Pending.{Pending}
use Rattle.buffer_pool.proofs.pending.PendingSignals.take.Goals as goal

pub returns-in_err-place-clause-some : goal.returns-in_err-place-clause-some
returns-in_err-place-clause-some c =
    let gone = absent c.args.fence 0 c.self.inside.signallers.items (rw c.deref.ensures.value at (sym c.place_of.ensures ∙ c.in_err-place.was)) in
    rw (← c.self.view_is, c.from_residual.ensures) (λ h. absurd (false≢true h), λ h. absurd (false≢true (sym gone.1 ∙ h)))

pub returns-in_err-place-clause-left : goal.returns-in_err-place-clause-left
returns-in_err-place-clause-left c =
    let gone = absent c.args.fence 0 c.self.inside.signallers.items (rw c.deref.ensures.value at (sym c.place_of.ensures ∙ c.in_err-place.was)) in
    rw (← c.self.view_is) (ap (λ (z : List ℕ). one z c.self.inside.room) (sym gone.0))
  where
    one : List ℕ → ℕ → Pending
    one z room = record { numbers = z; room = room }

pub remove-requires : goal.remove-requires
remove-requires c =
    let within = (found c.args.fence c.in_ok-place.place c.self.inside.signallers.items c.self.invariant.order (rw c.deref.ensures.value at (sym c.place_of.ensures ∙ c.in_ok-place.was))).within in
    omega (arith, within)

pub invariant_of-self : goal.invariant_of-self
invariant_of-self c =
    let at = found c.args.fence c.in_ok-place.place c.self.inside.signallers.items c.self.invariant.order (rw c.deref.ensures.value at (sym c.place_of.ensures ∙ c.in_ok-place.was)) in
    let is = c.remove.ensures.items ∙ at.left in
    let few = c.self.invariant.few in
    let room = c.self.invariant.room in
    let len = ap (λ (z : List ℕ). length z) c.remove.ensures.items in
    let less = length-remove c.self.inside.signallers.items c.in_ok-place.place at.within in
    let same = c.remove.ensures.capacity in record {
      order = rw is (ascends-without c.args.fence c.self.inside.signallers.items c.self.invariant.order);
      few = omega (arith, few, len, less);
      room = omega (arith, room, same);
      fits = c.self.invariant.fits;
    }

pub returns-clause-value : goal.returns-clause-value
returns-clause-value c =
    let at = found c.args.fence c.in_ok-place.place c.self.inside.signallers.items c.self.invariant.order (rw c.deref.ensures.value at (sym c.place_of.ensures ∙ c.in_ok-place.was)) in
    c.remove.ensures.value ∙ at.here c.remove.result

pub returns-clause-some : goal.returns-clause-some
returns-clause-some c =
    let at = found c.args.fence c.in_ok-place.place c.self.inside.signallers.items c.self.invariant.order (rw c.deref.ensures.value at (sym c.place_of.ensures ∙ c.in_ok-place.was)) in
    rw (← c.self.view_is) (λ h. at.stands, λ h. refl)

pub returns-clause-left : goal.returns-clause-left
returns-clause-left c =
    let at = found c.args.fence c.in_ok-place.place c.self.inside.signallers.items c.self.invariant.order (rw c.deref.ensures.value at (sym c.place_of.ensures ∙ c.in_ok-place.was)) in
    let is = c.remove.ensures.items ∙ at.left in
    rw (← c.self.view_is, is) refl
