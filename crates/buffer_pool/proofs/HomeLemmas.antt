-- Buffers at home, in order.
use Rattle.std.proofs.Common.{◌≡◌, ℕ, ◌+◌, ◌-◌, ◌<◌, ◌≤◌, zero, suc, Bool, true, false, List, [], ◌∷◌, ◌++◌, Option, Some, IfSome, IsTrue, length, drop, map, refl, ap, sym, ◌∙◌, inl, inr, arith}
use Rattle.std.specs.Prelude.{◌==◌, nat_le, nat_lt, ◌&&◌, slice_get}
use Rattle.std.specs.List.{list_all, list_any, range_with_len}
use Rattle.std.proofs.lemmas.Bool.{and_parts, and_from, cases_eq}
use Rattle.std.proofs.lemmas.Bool.Decides.{nat_tests}
use Rattle.std.proofs.lemmas.Grind.{common_steps}
use Rattle.buffer_pool.specs.declared.parked.Parked.{Parked}
use Rattle.buffer_pool.specs.Home.{Buffers, is_home, is_of, rises}
use Rattle.buffer_pool.specs.Parked.{number}

-- the numbers are at least the lowest
pub rises-above : (home : List Parked) (k low end : ℕ) → k ≤ low → rises low end home ≡ true → list_all (λ q. nat_le k (number q)) home ≡ true
rises-above [] k low end l h = refl
rises-above (p ∷ home) k low end l h =
    let later : rises (number p + 1) end home ≡ true = grind arith in
    let here : low ≤ number p = grind (arith, nat_tests) in
    let ih = rises-above home k (number p + 1) end (omega arith) later in
    grind (arith, nat_tests)

first-least : (p : Parked) (home : List Parked) (low end : ℕ) → rises low end (p ∷ home) ≡ true → list_all (λ q. nat_le (number p) (number q)) (p ∷ home) ≡ true
first-least p home low end h =
    let later : rises (number p + 1) end home ≡ true = grind arith in
    let ih = rises-above home (number p) (number p + 1) end (omega arith) later in
    grind (arith, nat_tests)

-- the first has the least number
pub least-first : (home : List Parked) (low end : ℕ) → rises low end home ≡ true → IfSome (slice_get home 0) (λ p. IsTrue (list_all (λ q. nat_le (number p) (number q)) home))
least-first [] low end h = tt
least-first (p ∷ home) low end h = first-least p home low end h

-- the first is one of the pool's
pub first-own : (home : List Parked) (low end : ℕ) → rises low end home ≡ true → IfSome (slice_get home 0) (λ p. IsTrue (nat_le low (number p) && nat_lt (number p) end))
first-own [] low end h = tt
first-own (p ∷ home) low end h = grind arith

pub is_of-parts : (first count n : ℕ) → (nat_le first n && nat_lt n (first + count)) ≡ true → (first ≤ n) × (n < first + count)
is_of-parts first count n h = (grind (arith, nat_tests), grind (arith, nat_tests))

pub is_of-from : (pool : Buffers) (n : ℕ) → pool.first ≤ n → n < pool.first + pool.count → is_of pool n ≡ true
is_of-from pool n g l = grind (arith, nat_tests)

-- a test that all at home pass
pub first-passes : (test : Parked → Bool) (home : List Parked) (p : Parked) → list_all test home ≡ true → Some p ≡ slice_get home 0 → test p ≡ true
first-passes test [] p h e = absurd (cc)
first-passes test (q ∷ home) p h e = let same : q ≡ p = cc in rw (← same) (and_parts (test q) (list_all test home) h).0

not-home : (home : List Parked) (n low end : ℕ) → rises low end home ≡ true → n < low → is_home n home ≡ false
not-home [] n low end h l = refl
not-home (p ∷ home) n low end h l =
    let later : rises (number p + 1) end home ≡ true = grind arith in
    let here : low ≤ number p = grind (arith, nat_tests) in
    let ih = not-home home n (number p + 1) end later (omega arith) in
    grind (arith, nat_tests)

-- where each number from `low` on is at home, there are as many buffers as numbers
pub length-all_home : (home : List Parked) (low end : ℕ) → rises low end home ≡ true → low ≤ end → ((n : ℕ) → low ≤ n → n < end → is_home n home ≡ true) → length home + low ≡ end
length-all_home [] low end h l all =
    elim (cases_eq low end) [ inl e ↦ omega arith | inr ne ↦ absurd (let here = all low (omega arith) (omega arith) in cc) ]
length-all_home (p ∷ home) low end h l all =
    let later : rises (number p + 1) end home ≡ true = grind arith in
    let above : low ≤ number p = grind (arith, nat_tests) in
    let below : number p < end = grind (arith, nat_tests) in
    elim (cases_eq low (number p)) [
      | inl e ↦ (let ih = length-all_home home (number p + 1) end later (omega arith) (λ n g b. let here = all n (omega arith) b in grind (arith, nat_tests)) in omega arith)
      | inr ne ↦ absurd (let here = all low (omega arith) (omega arith) in let none = not-home (p ∷ home) low (number p) end (grind (arith, nat_tests)) (omega arith) in cc)
    ]
