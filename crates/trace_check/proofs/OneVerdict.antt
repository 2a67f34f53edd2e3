-- A trace has one verdict.
use Rattle.std.proofs.Common.{◌≡◌, ℕ, ◌<◌, List, Some, None, refl, sym, ap, ◌∙◌, arith, inl, inr, nat_lt, reverse, take, slice_get, subst}
use Rattle.std.proofs.lemmas.Bool.{cases_Bool}
use Rattle.std.proofs.lemmas.Bool.Decides.{nat_tests}
use Rattle.cam_types.specs.declared.script.Script.{Script}
use Rattle.trace_model.specs.declared.entry.Entry.{Entry}
use Rattle.trace_model.specs.Allowed.{IsAllowed}
use Rattle.trace_model.specs.Complete.{IsComplete}
use Rattle.trace_model.specs.Legal.{IsLegal}
use Rattle.trace_model.specs.declared.verdict.RuleName.{RuleName}
use Rattle.trace_model.specs.declared.verdict.Verdict.{Verdict}
use Rattle.trace_model.specs.declared.verdict.Verdict.TheVariants.{Legal, IllegalAt, Incomplete}
use Rattle.trace_model.specs.Verdict.{IsIllegalAt, IsVerdict, first_missing, rule_of}
use Rattle.trace_check.proofs.Prefixes.{allowed-at, get-of-take, take-of-take}

pub nothing-missing : (script : Script) (past : List Entry) → IsComplete script past → first_missing script past ≡ None
nothing-missing script past c = rw (c.calls, c.open_frames, c.queue, c.pool, c.signals) refl

-- nothing is illegal in a legal trace
not-illegal : (script : Script) (trace : List Entry) (p : ℕ) (rule : RuleName) → IsLegal script (reverse trace) → IsIllegalAt script trace p rule → ⊥
not-illegal script trace p rule legal a = a.refused (allowed-at script trace p a.entry legal a.at)

-- nothing before an illegal entry is illegal
not-earlier : (script : Script) (trace : List Entry) (p q : ℕ) (r s : RuleName) → IsIllegalAt script trace p r → IsIllegalAt script trace q s → p < q → ⊥
not-earlier script trace p q r s a b less =
    let may = allowed-at script (take q trace) p a.entry b.before (get-of-take trace p q less ∙ a.at) in
    a.refused (subst (λ l. IsAllowed script (reverse l) a.entry) (take-of-take trace p q less) may)

same-place : (p q : ℕ) → (p < q → ⊥) → (q < p → ⊥) → p ≡ q
same-place p q h k = elim (cases_Bool (nat_lt p q)) [
  | inl yes' ↦ absurd (h (grind (arith, nat_tests)))
  | inr no' ↦ (elim (cases_Bool (nat_lt q p)) [
    | inl yes'' ↦ absurd (k (grind (arith, nat_tests)))
    | inr no'' ↦ grind (arith, nat_tests)
  ])
]

same-rule : (script : Script) (trace : List Entry) (p q : ℕ) (r s : RuleName) → p ≡ q → IsIllegalAt script trace p r → IsIllegalAt script trace q s → r ≡ s
same-rule script trace p q r s same a b =
    let b-at : slice_get trace p ≡ Some b.entry = rw same b.at in
    let entries : Some a.entry ≡ Some b.entry = sym a.at ∙ b-at in
    let entry : a.entry ≡ b.entry = cc in
    a.named ∙ (ap rule_of entry ∙ sym b.named)

pub one-verdict : (script : Script) (trace : List Entry) (v w : Verdict) → IsVerdict script trace v → IsVerdict script trace w → v ≡ w
one-verdict script trace Legal Legal a b = refl
one-verdict script trace Legal (IllegalAt q s) a b = absurd (not-illegal script trace q s a.legal b)
one-verdict script trace Legal (Incomplete part) a b = let none = nothing-missing script (reverse trace) a in let some = b.missing in absurd (cc)
one-verdict script trace (IllegalAt p r) Legal a b = absurd (not-illegal script trace p r b.legal a)
one-verdict script trace (IllegalAt p r) (IllegalAt q s) a b =
    let same = same-place p q (not-earlier script trace p q r s a b) (not-earlier script trace q p s r b a) in
    let rule = same-rule script trace p q r s same a b in
    rw (same, rule) refl
one-verdict script trace (IllegalAt p r) (Incomplete part) a b = absurd (not-illegal script trace p r b.legal a)
one-verdict script trace (Incomplete part) Legal a b = let none = nothing-missing script (reverse trace) b in let some = a.missing in absurd (cc)
one-verdict script trace (Incomplete part) (IllegalAt q s) a b = absurd (not-illegal script trace q s a.legal b)
one-verdict script trace (Incomplete part) (Incomplete other) a b = let one = a.missing in let two = b.missing in let same : part ≡ other = cc in rw same refl
