-- A pool after one buffer was taken or given is what the places and fences after it say.
use Rattle.std.proofs.Common.{◌≡◌, ℕ, zero, suc, ◌+◌, ◌<◌, ◌≤◌, true, false, List, [], ◌∷◌, Option, refl, sym, ap, ◌∙◌, arith, inl, inr, map, nat_lt}
use Rattle.std.proofs.lemmas.Bool.{cases_Bool, cases_eq}
use Rattle.std.proofs.lemmas.Bool.Decides.{nat_tests}
use Rattle.trace_model.specs.Place.{Place, Pool, is_at}
use Rattle.buffer_pool.specs.declared.parked.Parked.{Parked}
use Rattle.buffer_pool.specs.Home.{with_parked}
use Rattle.buffer_pool.specs.Parked.{number}
use Rattle.buffer_manager.specs.Resting.{ButAt, Resting, listed, resting}

module _ (c : ℕ) (f : ℕ → Place) (g : ℕ → Option ℕ) (f' : ℕ → Place) (g' : ℕ → Option ℕ) (but : ButAt c f g f' g') where
  above-same : (a n : ℕ) → c < a → listed f' g' a n ≡ listed f g a n
  above-same a zero less = refl
  above-same a (suc n) less =
      let other : a ≡ c → ⊥ = λ at. omega (arith, less, at) in
      rw (but.places a other, but.fences a other, above-same (a + 1) n (omega (arith, less))) refl

  low : (a n : ℕ) (x : Resting) (rest : List Resting) → listed f g a n ≡ x ∷ rest → a ≤ x.buffer
  low a zero x rest h = absurd (cc)
  low a (suc n) x rest h = elim (cases_Bool (is_at (f a) Pool)) [
    | inl home ↦ (let h' = rw home at h in let same : record { buffer = a; fence = g a } ≡ x = cc in let at : a ≡ x.buffer = ap (λ (y : Resting). y.buffer) same in omega (arith, at))
    | inr away ↦ (let h' = rw away at h in let ih = low (a + 1) n x rest h' in omega (arith, ih))
  ]

  -- the least goes
  pub taken : (a n : ℕ) (x : Resting) (rest : List Resting) → is_at (f' c) Pool ≡ false → x.buffer ≡ c → listed f g a n ≡ x ∷ rest → listed f' g' a n ≡ rest
  taken a zero x rest away at h = absurd (cc)
  taken a (suc n) x rest away at h = elim (cases_Bool (is_at (f a) Pool)) [
    | inl home ↦ (
        let h' = rw home at h in
        let same : record { buffer = a; fence = g a } ≡ x = cc in
        let others : listed f g (a + 1) n ≡ rest = cc in
        let here : a ≡ c = ap (λ (y : Resting). y.buffer) same ∙ at in
        let away' : is_at (f' a) Pool ≡ false = rw here away in
        rw away' (above-same (a + 1) n (omega (arith, here)) ∙ others)
        )
    | inr gone ↦ (
        let h' = rw gone at h in
        let l = low (a + 1) n x rest h' in
        let other : a ≡ c → ⊥ = λ here. omega (arith, here, at, l) in
        let gone' : is_at (f' a) Pool ≡ false = ap (λ p. is_at p Pool) (but.places a other) ∙ gone in
        rw gone' (taken (a + 1) n x rest away at h')
        )
  ]

  first-greater : (p : Parked) (a n : ℕ) (home : List Parked) → number p < a → map resting home ≡ listed f g a n → with_parked p home ≡ p ∷ home
  first-greater p a n [] less h = refl
  first-greater p a n (q ∷ home) less h =
      let l = low a n (resting q) (map resting home) (sym h) in
      let l' : a ≤ number q = l in
      let no' : nat_lt (number q) (number p) ≡ false = grind (arith, nat_tests, l', less) in
      rw no' refl

  -- one comes back
  pub given : (p : Parked) (a n : ℕ) (home : List Parked) → number p ≡ c → p.waiter ≡ g' c → is_at (f c) Pool ≡ false → is_at (f' c) Pool ≡ true → a ≤ c → c < a + n → map resting home ≡ listed f g a n → map resting (with_parked p home) ≡ listed f' g' a n
  given p a zero home at fence away home' low' high h = absurd (omega (arith, low', high))
  given p a (suc n) home at fence away home' low' high h = elim (cases_eq a c) [
    | inl here ↦ (
        let away' : is_at (f a) Pool ≡ false = rw here away in
        let back : is_at (f' a) Pool ≡ true = rw here home' in
        let h' : map resting home ≡ listed f g (a + 1) n = rw away' at h in
        let first = first-greater p (a + 1) n home (omega (arith, at, here)) h' in
        let number' : number p ≡ a = at ∙ sym here in
        let fence' : p.waiter ≡ g' a = fence ∙ ap g' (sym here) in
        let one : resting p ≡ record { buffer = a; fence = g' a } = pair (number p) a p.waiter (g' a) number' fence' in
        let rest : map resting home ≡ listed f' g' (a + 1) n = h' ∙ sym (above-same (a + 1) n (omega (arith, here))) in
        rw (first, back) (ap (λ (y : Resting). y ∷ map resting home) one ∙ ap (λ (ys : List Resting). record { buffer = a; fence = g' a } ∷ ys) rest)
        )
    | inr other ↦ elim (cases_Bool (is_at (f a) Pool)) [
      | inl in' ↦ (
          let stays : is_at (f' a) Pool ≡ true = ap (λ p. is_at p Pool) (but.places a other) ∙ in' in
          let h' : map resting home ≡ record { buffer = a; fence = g a } ∷ listed f g (a + 1) n = rw in' at h in
          rw (stays, but.fences a other) (behind p a n home (λ rest k. given p (a + 1) n rest at fence away home' (omega (arith, low', other)) (omega (arith, high)) k) (omega (arith, at, low', other)) h')
          )
      | inr out ↦ (
          let stays : is_at (f' a) Pool ≡ false = ap (λ p. is_at p Pool) (but.places a other) ∙ out in
          let h' : map resting home ≡ listed f g (a + 1) n = rw out at h in
          rw stays (given p (a + 1) n home at fence away home' (omega (arith, low', other)) (omega (arith, high)) h')
          )
    ]
  ]
    where
      pair : (a b : ℕ) (s t : Option ℕ) → a ≡ b → s ≡ t → ◌≡◌ {A = Resting} (record { buffer = a; fence = s }) (record { buffer = b; fence = t })
      pair a b s t x y = rw (x, y) refl

      behind : (p : Parked) (a n : ℕ) (home : List Parked) → ((rest : List Parked) → map resting rest ≡ listed f g (a + 1) n → map resting (with_parked p rest) ≡ listed f' g' (a + 1) n) → a < number p → map resting home ≡ record { buffer = a; fence = g a } ∷ listed f g (a + 1) n → map resting (with_parked p home) ≡ record { buffer = a; fence = g a } ∷ listed f' g' (a + 1) n
      behind p a n [] ih less h = absurd (cc)
      behind p a n (q ∷ rest) ih less h =
          let first : resting q ≡ record { buffer = a; fence = g a } = cc in
          let others : map resting rest ≡ listed f g (a + 1) n = cc in
          let number' : number q ≡ a = ap (λ (y : Resting). y.buffer) first in
          let yes' : nat_lt (number q) (number p) ≡ true = grind (arith, nat_tests, number', less) in
          rw yes' (ap (λ (y : Resting). y ∷ map resting (with_parked p rest)) first ∙ ap (λ (ys : List Resting). record { buffer = a; fence = g a } ∷ ys) (ih rest others))

-- the same, as the calls of a pool say it
pub take_is : (c : ℕ) (f f' : ℕ → Place) (g g' : ℕ → Option ℕ) (a n : ℕ) (p : Parked) (home : List Parked) → ButAt c f g f' g' → is_at (f' c) Pool ≡ false → number p ≡ c → map resting (p ∷ home) ≡ listed f g a n → map resting home ≡ listed f' g' a n
take_is c f f' g g' a n p home but away at h = sym (taken c f g f' g' but a n (resting p) (map resting home) away at (sym h))

pub give_is : (c : ℕ) (f f' : ℕ → Place) (g g' : ℕ → Option ℕ) (a n : ℕ) (p : Parked) (home : List Parked) → ButAt c f g f' g' → number p ≡ c → p.waiter ≡ g' c → is_at (f c) Pool ≡ false → is_at (f' c) Pool ≡ true → a ≤ c → c < a + n → map resting home ≡ listed f g a n → map resting (with_parked p home) ≡ listed f' g' a n
give_is c f f' g g' a n p home but at fence away home' low' high h = given c f g f' g' but p a n home at fence away home' low' high h
