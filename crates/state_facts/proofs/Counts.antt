-- Lemmas on filters over numbers that know nothing of cameras.
use Rattle.std.proofs.Common.{◌≡◌, ℕ, ◌==◌, ◌+◌, Bool, true, false, ◌&&◌, not, List, [], ◌∷◌, refl, arith, inl, inr, filter, length, nat_lt, if◌then◌else◌}
use Rattle.std.specs.List.{list_any, list_all}
use Rattle.std.proofs.lemmas.Bool.{and_parts, both_ways, cases_Bool, eqb-true, false≢true, ltb-true, ne_eqb}
use Rattle.trace_laws.proofs.Frames.{falls}

pub filter-agree : {X : Type 0} (ok p q : X → Bool) (xs : List X) → list_all ok xs ≡ true → ((x : X) → ok x ≡ true → p x ≡ q x) → filter p xs ≡ filter q xs
filter-agree ok p q [] all h = refl
filter-agree ok p q (x ∷ xs) all h =
    let parts = and_parts (ok x) (list_all ok xs) all in
    rw (h x parts.0, filter-agree ok p q xs parts.1 h) refl

-- where a test changes at n alone, and from false to true, one more is kept
others-same : (p q : ℕ → Bool) (n : ℕ) (xs : List ℕ) → list_all (λ m. nat_lt m n) xs ≡ true → ((m : ℕ) → (n == m) ≡ false → q m ≡ p m) → filter q xs ≡ filter p xs
others-same p q n xs below same = filter-agree (λ m. nat_lt m n) q p xs below (λ m less. same m (ne_eqb n m (λ at. absurd (omega (arith, ltb-true m n less, at)))))

at-one : (b c : Bool) (k : ℕ) → (b ≡ true → c ≡ true) → (if c then 1 + k else k) ≡ (if c && not b then 1 else 0) + (if b then 1 + k else k)
at-one true true k h = omega arith
at-one true false k h = absurd (false≢true (h refl))
at-one false true k h = omega arith
at-one false false k h = omega arith

kept-length : (p : ℕ → Bool) (x : ℕ) (xs : List ℕ) → length (filter p (x ∷ xs)) ≡ (if p x then 1 + length (filter p xs) else length (filter p xs))
kept-length p x xs = elim (cases_Bool (p x)) [ inl yes' ↦ rw yes' (omega arith) | inr no' ↦ rw no' refl ]

pub one-more : (p q : ℕ → Bool) (n : ℕ) (xs : List ℕ) → falls xs ≡ true → ((m : ℕ) → (n == m) ≡ false → q m ≡ p m) → (p n ≡ true → q n ≡ true) → (q n ≡ true → list_any (λ m. m == n) xs ≡ true) → length (filter q xs) ≡ (if q n && not (p n) then 1 else 0) + length (filter p xs)
one-more p q n [] falls' same more listed =
    elim (cases_Bool (q n)) [ inl yes' ↦ absurd (false≢true (listed yes')) | inr no' ↦ rw no' refl ]
one-more p q n (x ∷ xs) falls' same more listed =
    let parts = and_parts (list_all (λ m. nat_lt m x) xs) (falls xs) falls' in
    elim (cases_Bool (n == x)) [
      | inl here ↦ (
          let at = eqb-true n x here in
          let rest : filter q xs ≡ filter p xs = others-same p q n xs (rw at parts.0) same in
          let one = at-one (p n) (q n) (length (filter p xs)) more in
          rw (kept-length q x xs, kept-length p x xs, ← at, rest) one
          )
      | inr other ↦ (
          let other' : (x == n) ≡ false = ne_eqb x n (λ at. absurd (both_ways (n == x) other (rw at (grind arith)))) in
          let ih = one-more p q n xs parts.1 same more (λ yes'. let l = listed yes' in rw other' at l) in
          rw (kept-length q x xs, kept-length p x xs, same x other) (by-rest (p x) (length (filter q xs)) (length (filter p xs)) (if q n && not (p n) then 1 else 0) ih)
          )
    ]
  where
    by-rest : (b : Bool) (k j d : ℕ) → k ≡ d + j → (if b then 1 + k else k) ≡ d + (if b then 1 + j else j)
    by-rest true k j d h = omega (arith, h)
    by-rest false k j d h = h
