-- What a walk over the numbers below one finds.
use Rattle.std.proofs.Common.{◌≡◌, ℕ, zero, suc, ◌<◌, Bool, true, false, ◌||◌, not, Some, None, inl, inr, refl, arith}
use Rattle.std.proofs.lemmas.Bool.{both_ways, cases_Bool, cases_eq}
use Rattle.reprocess_model.specs.Past.{all_below, find_below}
use Rattle.reprocess_model.proofs.Found.{all_below-at}

pub found-none : (n : ℕ) (p : ℕ → Bool) → ((j : ℕ) → j < n → p j ≡ false) → find_below n p ≡ None
found-none zero p h = refl
found-none (suc n) p h = rw (found-none n p (λ j l. h j (omega arith)), h n (omega arith)) refl

pub found-is : (n k : ℕ) (p : ℕ → Bool) → k < n → p k ≡ true → ((j : ℕ) → j < k → p j ≡ false) → find_below n p ≡ Some k
found-is zero k p l t h = absurd (omega arith)
found-is (suc n) k p l t h =
    elim (cases_eq k n) [
      | inl e ↦ (let t' = rw e at t in rw (found-none n p (λ j m. h j (omega (arith, e, m))), t', e) refl)
      | inr ne ↦ rw (found-is n k p (omega arith) t h) refl
    ]

pub below-fails : (n k : ℕ) (p : ℕ → Bool) → k < n → p k ≡ false → all_below n p ≡ false
below-fails n k p l h =
    elim (cases_Bool (all_below n p)) [
      | inl all ↦ absurd (both_ways (p k) h (all_below-at n p k all l))
      | inr some ↦ some
    ]

pub not-gone : (b : Bool) → b ≡ true → not b ≡ false
not-gone true h = refl
not-gone false h = absurd (cc)

pub neither-settled : (taken settled : Bool) → taken ≡ true → settled ≡ false → (not taken || settled) ≡ false
neither-settled taken settled a b = rw (a, b) refl

pub either-settled : (taken settled : Bool) → settled ≡ true → (not taken || settled) ≡ true
either-settled true settled b = b
either-settled false settled b = refl
