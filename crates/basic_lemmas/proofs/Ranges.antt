-- Lemmas on lists that have a value for each number of a range.
use Rattle.std.proofs.Common.{◌≡◌, ℕ, zero, suc, ◌==◌, ◌+◌, ◌-◌, ◌<◌, ◌≤◌, Bool, true, false, ◌||◌, ◌∷◌, ◌++◌, refl, ap, arith, inl, inr, map, if◌then◌else◌}
use Rattle.std.specs.Prelude.{slice_set, replicate}
use Rattle.std.specs.List.{list_any, list_all, range_with_len}
use Rattle.std.proofs.lemmas.Bool.{and_parts, cases_Bool, cases_eq, eq-eqb, false≢true, ne_eqb}
use Rattle.std.proofs.lemmas.Bool.Decides.{nat_tests}

pub in-range : (a n b : ℕ) → list_any (λ c. c == b) (range_with_len a n) ≡ true → (a ≤ b) × (b < a + n)
in-range a zero b h = absurd (false≢true h)
in-range a (suc n) b h =
    elim (cases_Bool (a == b)) [
      | inl here ↦ (let same : a ≡ b = grind (arith, nat_tests) in (omega (arith, same), omega (arith, same)))
      | inr no' ↦ (let h' = rw no' at h in let ih = in-range (a + 1) n b h' in (omega (arith, ih.0), omega (arith, ih.1)))
    ]

pub range-more : (a n m : ℕ) → range_with_len a (n + m) ≡ range_with_len a n ++ range_with_len (a + n) m
range-more a zero m = let e : zero + m ≡ m = omega arith in let e' : a + zero ≡ a = omega arith in rw (e, e') refl
range-more a (suc n) m =
    let e : suc n + m ≡ suc (n + m) = omega arith in
    let e' : a + suc n ≡ (a + 1) + n = omega arith in
    rw (e, e') (ap (λ xs. a ∷ xs) (range-more (a + 1) n m))

-- what all of a range pass
pub range-at : (p : ℕ → Bool) (a n b : ℕ) → list_all p (range_with_len a n) ≡ true → a ≤ b → b < a + n → p b ≡ true
range-at p a zero b all low high = absurd (omega (arith, low, high))
range-at p a (suc n) b all low high =
    let parts = and_parts (p a) (list_all p (range_with_len (a + 1) n)) all in
    elim (cases_eq a b) [
      | inl here ↦ rw here at parts.0
      | inr no' ↦ range-at p (a + 1) n b parts.1 (omega (arith, low, no')) (omega (arith, high))
    ]

module _ {X : Type 0} where
  -- one value changed, that of a number below the range and that of one in it
  none-set : (g : ℕ → X) (v : X) (c a n : ℕ) → c < a → map (λ b. if c == b then v else g b) (range_with_len a n) ≡ map g (range_with_len a n)
  none-set g v c a zero less = refl
  none-set g v c a (suc n) less =
      let other : (c == a) ≡ false = ne_eqb c a (λ at. absurd (omega (arith, less, at))) in
      rw other (ap (λ xs. g a ∷ xs) (none-set g v c (a + 1) n (omega (arith, less))))

  pub set-from : (g : ℕ → X) (v : X) (c a i n : ℕ) → c ≡ a + i → map (λ b. if c == b then v else g b) (range_with_len a n) ≡ slice_set (map g (range_with_len a n)) i v
  set-from g v c a i zero at = refl
  set-from g v c a zero (suc n) at =
      let here : (c == a) ≡ true = eq-eqb c a (omega (arith, at)) in
      rw here (ap (λ xs. v ∷ xs) (none-set g v c (a + 1) n (omega (arith, at))))
  set-from g v c a (suc i) (suc n) at =
      let other : (c == a) ≡ false = ne_eqb c a (λ same. absurd (omega (arith, at, same))) in
      rw other (ap (λ xs. g a ∷ xs) (set-from g v c (a + 1) i n (omega (arith, at))))

  pub set-one : (g : ℕ → X) (v : X) (c a n : ℕ) → a ≤ c → map (λ b. if c == b then v else g b) (range_with_len a n) ≡ slice_set (map g (range_with_len a n)) (c - a) v
  set-one g v c a n low = set-from g v c a (c - a) n (omega (arith, low))

  or-if : (x y : Bool) (v w : X) → (if x || y then v else w) ≡ (if x then v else (if y then v else w))
  or-if true y v w = refl
  or-if false y v w = refl

  -- one value for all
  pub map-all : (g : ℕ → X) (v : X) (a n : ℕ) → ((b : ℕ) → a ≤ b → g b ≡ v) → map g (range_with_len a n) ≡ replicate n v
  map-all g v a zero same = refl
  map-all g v a (suc n) same = rw (same a (omega arith)) (ap (λ xs. v ∷ xs) (map-all g v (a + 1) n (λ b low. same b (omega (arith, low)))))
