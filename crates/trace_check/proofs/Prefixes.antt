-- A list up to a place and from it on, and what a legal trace says of an entry over those before it.
use Rattle.std.proofs.Common.{◌≡◌, ℕ, zero, suc, ◌<◌, ◌+◌, List, [], ◌∷◌, ◌++◌, Some, refl, sym, ap, ◌∙◌, arith, reverse, take, drop, slice_get, subst, add-one, get_or, length}
use Rattle.std.proofs.lemmas.List.{reverse-append}
use Rattle.std.proofs.lemmas.Option.{slice_get-get_or}
use Rattle.cam_types.specs.declared.script.Script.{Script}
use Rattle.trace_model.specs.declared.entry.Entry.{Entry}
use Rattle.basic_lemmas.proofs.Lists.{newest}
use Rattle.trace_model.specs.Allowed.{IsAllowed}
use Rattle.trace_model.specs.Legal.{IsLegal}
use Rattle.trace_model.specs.declared.verdict.RuleName.{RuleName}
use Rattle.trace_model.specs.Verdict.{IsIllegalAt, rule_of}

split-at : {X : Type 0} (xs : List X) (p : ℕ) → take p xs ++ drop p xs ≡ xs
split-at [] zero = refl
split-at [] (suc p) = refl
split-at (x ∷ xs) zero = refl
split-at (x ∷ xs) (suc p) = ap (λ l. x ∷ l) (split-at xs p)

-- what was legal before stays so
legal-after : (script : Script) (later past : List Entry) → IsLegal script (later ++ past) → IsLegal script past
legal-after script [] past legal = legal
legal-after script (e ∷ later) past legal = legal-after script later past legal.1

pub legal-before : (script : Script) (trace : List Entry) (p : ℕ) → IsLegal script (reverse trace) → IsLegal script (reverse (take p trace))
legal-before script trace p legal =
    let whole : reverse trace ≡ reverse (drop p trace) ++ reverse (take p trace) = ap reverse (sym (split-at trace p)) ∙ reverse-append (take p trace) (drop p trace) in
    legal-after script (reverse (drop p trace)) (reverse (take p trace)) (subst (IsLegal script) whole legal)

pub allowed-at : (script : Script) (trace : List Entry) (p : ℕ) (e : Entry) → IsLegal script (reverse trace) → slice_get trace p ≡ Some e → IsAllowed script (reverse (take p trace)) e
allowed-at script trace p e legal at = (subst (IsLegal script) (newest trace p e at) (legal-before script trace (suc p) legal)).0

pub get-of-take : {X : Type 0} (xs : List X) (p q : ℕ) → p < q → slice_get (take q xs) p ≡ slice_get xs p
get-of-take [] p zero h = refl
get-of-take [] p (suc q) h = refl
get-of-take (x ∷ xs) p zero h = absurd (omega arith)
get-of-take (x ∷ xs) zero (suc q) h = refl
get-of-take (x ∷ xs) (suc p) (suc q) h = get-of-take xs p q (omega arith)

pub take-of-take : {X : Type 0} (xs : List X) (p q : ℕ) → p < q → take p (take q xs) ≡ take p xs
take-of-take [] p zero h = refl
take-of-take [] p (suc q) h = refl
take-of-take (x ∷ xs) p zero h = absurd (omega arith)
take-of-take (x ∷ xs) zero (suc q) h = refl
take-of-take (x ∷ xs) (suc p) (suc q) h = ap (λ l. x ∷ l) (take-of-take xs p q (omega arith))

-- ---- the entry at a place

pub read-newest : {X : Type 0} (xs : List X) (p : ℕ) (d : X) → p < length xs → reverse (take (p + 1) xs) ≡ get_or xs p d ∷ reverse (take p xs)
read-newest xs p d h = rw add-one (newest xs p (get_or xs p d) (slice_get-get_or xs p d h))

pub illegal-at : (script : Script) (trace : List Entry) (p : ℕ) (d : Entry) (rule : RuleName) → p < length trace → IsLegal script (reverse (take p trace)) → (IsAllowed script (reverse (take p trace)) (get_or trace p d) → ⊥) → rule ≡ rule_of (get_or trace p d) → IsIllegalAt script trace p rule
illegal-at script trace p d rule h legal refused named = record {
  entry = get_or trace p d;
  at = slice_get-get_or trace p d h;
  before = legal;
  refused = refused;
  named = named;
}
