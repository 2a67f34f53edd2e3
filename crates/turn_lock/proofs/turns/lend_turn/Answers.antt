use Rattle.std.proofs.Common.{◌≡◌, ℕ, List, [], ◌∷◌, ◌++◌, sym, subst, ⊎_elim, Contains, IsPermutation}
use Rattle.std.proofs.lemmas.List.Sorted.{IsPermutation-to_front, IsPermutation-sym}
use Rattle.turn_lock.proofs.ForCallers.{may_leave, may_leave_with, own_jobs, own_jobs_with}
use Rattle.turn_lock.proofs.Lending.{lent_or_not, told_so}
use Rattle.turn_lock.proofs.turns.lend_turn.Goals as goal

-- a list with the ticket at its end
with_it : (ticket : ℕ) (out new : List ℕ) → new ≡ out ++ ticket ∷ [] → IsPermutation (ticket ∷ out) new
with_it ticket out new e =
    subst (λ (l : List ℕ). IsPermutation (ticket ∷ out) l) (sym e) (IsPermutation-sym (out ++ ticket ∷ []) (ticket ∷ out) (IsPermutation-to_front out ticket))

pub leave-requires-clause-value : goal.leave-requires-clause-value
leave-requires-clause-value g c =
    let t = c.args.ticket in let out = c.enter-held.result.value.out.items in let new = c.lend-lent.new.self.out.items in let lent = c.lend-lent.ensures in
    let Lent : Type 0 = ¬ Contains out t × (new ≡ out ++ t ∷ []) in
    ⊎_elim
    (λ (h : Lent). may_leave_with _ _ _ _ _ _ _ _ c.enter-held.ensures.turn lent.others.0 lent.begins t (with_it t out new h.1) h.0)
    (λ (h : new ≡ out). may_leave _ _ _ _ _ _ _ _ c.enter-held.ensures.turn lent.others.0 lent.begins h)
    (lent_or_not Lent (Contains out t) (new ≡ out) c.lend-lent.result lent.lent lent.err)

pub returns-clause-lent : goal.returns-clause-lent
returns-clause-lent g c =
    let t = c.args.ticket in let out = c.enter-held.result.value.out.items in let new = c.lend-lent.new.self.out.items in let lent = c.lend-lent.ensures in
    told_so (¬ Contains out t × (new ≡ out ++ t ∷ [])) (Contains out t × (new ≡ out)) _ _ c.lend-lent.result lent.lent
    (λ h. own_jobs_with _ _ _ _ _ _ _ _ c.enter-held.ensures.turn lent.others.0 lent.begins _ t c.leave.ensures.turn (with_it t out new h.1))
    (λ h. own_jobs _ _ _ _ _ _ _ _ c.enter-held.ensures.turn lent.others.0 lent.begins _ c.leave.ensures.turn h.1)
