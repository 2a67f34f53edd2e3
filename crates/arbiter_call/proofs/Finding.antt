-- What is found in a range of numbers.
use Rattle.std.proofs.Common.{◌≡◌, ℕ, zero, suc, ◌+◌, ◌-◌, ◌≤◌, ◌<◌, Bool, true, false, Option, Some, None, find, if◌then◌else◌, refl, arith, inl, inr}
use Rattle.std.specs.List.{range_with_len}
use Rattle.std.proofs.lemmas.Bool.{cases_Bool, cases_eq}

-- where nothing is found none passes
pub find-missed : (p : ℕ → Bool) (a n b : ℕ) → find p (range_with_len a n) ≡ None → a ≤ b → b < a + n → p b ≡ false
find-missed p a zero b h low high = absurd (omega (arith, low, high))
find-missed p a (suc n) b h low high =
    elim (cases_Bool (p a)) [
      | inl here ↦ (let h' = rw here at h in absurd (cc))
      | inr no' ↦ (
          let h' = rw no' at h in
          elim (cases_eq a b) [
            | inl same ↦ rw same at no'
            | inr other ↦ find-missed p (a + 1) n b h' (omega (arith, low, other)) (omega (arith, high))
          ]
          )
    ]

-- what is found passes, and is in the range
pub find-found : (p : ℕ → Bool) (a n b : ℕ) → find p (range_with_len a n) ≡ Some b → (a ≤ b) × (b < a + n) × (p b ≡ true)
find-found p a zero b h = absurd (cc)
find-found p a (suc n) b h =
    elim (cases_Bool (p a)) [
      | inl here ↦ (
          let h' = rw here at h in
          let same : a ≡ b = cc in
          (omega (arith, same), omega (arith, same), rw same at here)
          )
      | inr no' ↦ (
          let h' = rw no' at h in
          let ih = find-found p (a + 1) n b h' in
          (omega (arith, ih.0), omega (arith, ih.1), ih.2)
          )
    ]

-- the first of a range, and the others
pub find-next : (p : ℕ → Bool) (a n : ℕ) → a < n → find p (range_with_len a (n - a)) ≡ (if p a then Some a else find p (range_with_len (a + 1) (n - (a + 1))))
find-next p a n l = let e : n - a ≡ suc (n - (a + 1)) = omega arith in rw e refl
