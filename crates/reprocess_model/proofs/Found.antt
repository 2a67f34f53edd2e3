-- The least number that passes a test, and what all numbers below one pass.
use Rattle.std.proofs.Common.{◌≡◌, ℕ, zero, suc, ◌+◌, ◌<◌, ◌≤◌, Bool, true, false, Option, Some, None, ◌⊎◌, inl, inr, refl, arith, cond, find}
use Rattle.std.specs.List.{range_with_len}
use Rattle.std.proofs.lemmas.Bool.{and_parts, both_ways, cases_Bool, cases_eq}
use Rattle.basic_lemmas.proofs.Tests.{given-where}
use Rattle.reprocess_model.specs.Past.{all_below, find_below, or_else}

pub some-or-none : {X : Type 0} (o : Option X) → (o ≡ None) ⊎ ((x : X) × (o ≡ Some x))
some-or-none None = inl refl
some-or-none (Some x) = inr (x, refl)

pub all_below-at : (n : ℕ) (p : ℕ → Bool) (m : ℕ) → all_below n p ≡ true → m < n → p m ≡ true
all_below-at zero p m h l = absurd (omega arith)
all_below-at (suc n) p m h l =
    let parts = and_parts (p n) (all_below n p) h in
    elim (cases_eq m n) [ inl e ↦ rw e parts.0 | inr ne ↦ all_below-at n p m parts.1 (omega arith) ]

pub all_below-from : (n : ℕ) (p : ℕ → Bool) → ((m : ℕ) → m < n → p m ≡ true) → all_below n p ≡ true
all_below-from zero p h = refl
all_below-from (suc n) p h = rw (h n (omega arith)) (all_below-from n p (λ m l. h m (omega arith)))

-- a number below one that fails the test
pub all_below-fails : (n : ℕ) (p : ℕ → Bool) → all_below n p ≡ false → (m : ℕ) × (m < n) × (p m ≡ false)
all_below-fails zero p h = absurd (cc)
all_below-fails (suc n) p h =
    elim (cases_Bool (p n)) [
      | inl yes' ↦ (let h' = rw yes' at h in let ih = all_below-fails n p h' in (ih.0, omega (arith, ih.1), ih.2))
      | inr no' ↦ (n, omega arith, no')
    ]

or_else-cases : (o x : Option ℕ) (k : ℕ) → or_else o x ≡ Some k → (o ≡ Some k) ⊎ ((o ≡ None) × (x ≡ Some k))
or_else-cases (Some j) x k h = inl h
or_else-cases None x k h = inr (refl, h)

or_else-none : (o x : Option ℕ) → or_else o x ≡ None → (o ≡ None) × (x ≡ None)
or_else-none (Some j) x h = absurd (cc)
or_else-none None x h = (refl, h)

pub found-passes : (n : ℕ) (p : ℕ → Bool) (k : ℕ) → find_below n p ≡ Some k → (k < n) × (p k ≡ true)
found-passes zero p k h = absurd (cc)
found-passes (suc n) p k h =
    elim (or_else-cases (find_below n p) (cond (p n) (Some n) None) k h) [
      | inl before ↦ (let ih = found-passes n p k before in (omega (arith, ih.0), ih.1))
      | inr here ↦ (let given = given-where (p n) n k here.1 in (omega (arith, given.1), rw given.1 at given.0))
    ]

pub none-passes : (n : ℕ) (p : ℕ → Bool) (j : ℕ) → find_below n p ≡ None → j < n → p j ≡ false
none-passes zero p j h l = absurd (omega arith)
none-passes (suc n) p j h l =
    let parts = or_else-none (find_below n p) (cond (p n) (Some n) None) h in
    elim (cases_eq j n) [
      | inl same ↦ elim (cases_Bool (p n)) [
        | inl yes' ↦ (let wrong = rw yes' at parts.1 in absurd (cc))
        | inr no' ↦ rw same no'
      ]
      | inr other ↦ none-passes n p j parts.0 (omega arith)
    ]

pub least-passes : (n : ℕ) (p : ℕ → Bool) (k j : ℕ) → find_below n p ≡ Some k → j < k → p j ≡ false
least-passes zero p k j h l = absurd (cc)
least-passes (suc n) p k j h l =
    elim (or_else-cases (find_below n p) (cond (p n) (Some n) None) k h) [
      | inl before ↦ least-passes n p k j before l
      | inr here ↦ (let given = given-where (p n) n k here.1 in none-passes n p j here.0 (omega (arith, given.1)))
    ]

pub some-found : (n : ℕ) (p : ℕ → Bool) (j : ℕ) → j < n → p j ≡ true → (k : ℕ) × (find_below n p ≡ Some k)
some-found n p j l h =
    elim (some-or-none (find_below n p)) [
      | inl none ↦ absurd (both_ways (p j) (none-passes n p j none l) h)
      | inr some ↦ some
    ]

-- the same of a list of numbers in a row
pub in-row : (p : ℕ → Bool) (a n k : ℕ) → find p (range_with_len a n) ≡ Some k → (a ≤ k) × (k < a + n) × (p k ≡ true)
in-row p a zero k h = absurd (cc)
in-row p a (suc n) k h =
    elim (cases_Bool (p a)) [
      | inl here ↦ (let h' = rw here at h in let same : a ≡ k = cc in (omega (arith, same), omega (arith, same), rw same at here))
      | inr other ↦ (let h' = rw other at h in let ih = in-row p (a + 1) n k h' in (omega (arith, ih.0), omega (arith, ih.1), ih.2))
    ]

-- the first of a row is found where it passes
pub first-found : (p : ℕ → Bool) (a n : ℕ) → p a ≡ true → find p (range_with_len a (suc n)) ≡ Some a
first-found p a n h = rw h refl
