-- Lemmas on counts, sums and how much a filter keeps.
use Rattle.std.proofs.Common.{◌≡◌, ℕ, zero, suc, ◌+◌, ◌*◌, ◌≤◌, Bool, true, false, ◌==◌, ◌∙◌, refl, sym, List, [], ◌∷◌, Some, arith, inl, inr, length, drop, filter, sum_by, count_by, slice_get, if◌then◌else◌, cond}
use Rattle.std.specs.List.{list_any}
use Rattle.std.proofs.lemmas.Bool.{cases_Bool, false≢true}
use Rattle.std.proofs.lemmas.Bool.Decides.{nat_tests}
use Rattle.std.proofs.lemmas.List.Sums.{sum_by-cons}

-- a test that passes less keeps no more
pub filter-less : {X : Type 0} (p q : X → Bool) → ((x : X) → p x ≡ false → q x ≡ false) → (xs : List X) → length (filter q xs) ≤ length (filter p xs)
filter-less p q less [] = omega arith
filter-less p q less (x ∷ xs) =
    let ih = filter-less p q less xs in
    elim (cases_Bool (p x)) [
      | inl yes' ↦ elim (cases_Bool (q x)) [ inl same ↦ rw (yes', same) (omega (arith, ih)) | inr no' ↦ rw (yes', no') (omega (arith, ih)) ]
      | inr no' ↦ rw (no', less x no') ih
    ]

-- and fewer where one that it passes over was kept
pub filter-fewer : {X : Type 0} (p q t : X → Bool) → ((x : X) → p x ≡ false → q x ≡ false) → ((x : X) → t x ≡ true → q x ≡ false) → (xs : List X) → list_any t (filter p xs) ≡ true → length (filter q xs) + 1 ≤ length (filter p xs)
filter-fewer p q t less fails [] any = absurd (false≢true any)
filter-fewer p q t less fails (x ∷ xs) any =
    elim (cases_Bool (p x)) [
      | inl kept ↦ elim (cases_Bool (t x)) [
        | inl here ↦ (let rest = filter-less p q less xs in rw (kept, fails x here) (omega (arith, rest)))
        | inr no' ↦ (
            let any' = rw (kept, no') at any in
            let ih = filter-fewer p q t less fails xs any' in
            elim (cases_Bool (q x)) [ inl same ↦ rw (kept, same) (omega (arith, ih)) | inr other ↦ rw (kept, other) (omega (arith, ih)) ]
            )
      ]
      | inr no' ↦ (let any' = rw no' at any in let ih = filter-fewer p q t less fails xs any' in rw (no', less x no') ih)
    ]

-- a test keeps no more than there is
pub filter-short : {X : Type 0} (p : X → Bool) (xs : List X) → length (filter p xs) ≤ length xs
filter-short p [] = omega arith
filter-short p (x ∷ xs) =
    let ih = filter-short p xs in
    elim (cases_Bool (p x)) [ inl yes' ↦ rw yes' (omega (arith, ih)) | inr no' ↦ rw no' (omega (arith, ih)) ]

-- one more of a count, which is told from the first on
pub count-cons : {X : Type 0} (p : X → Bool) (x : X) (xs : List X) → count_by p (x ∷ xs) ≡ (if p x then 1 else 0) + count_by p xs
count-cons p x xs = sum_by-cons (λ y. cond (p y) 1 0) x xs

-- what is left from a place on, by what stands there
pub drop-at : {X : Type 0} (f : X → ℕ) (xs : List X) (i : ℕ) (x : X) → slice_get xs i ≡ Some x → sum_by f (drop i xs) ≡ f x + sum_by f (drop (i + 1) xs)
drop-at f [] i x h = absurd (cc)
drop-at f (y ∷ xs) zero x h = let same : y ≡ x = cc in rw same (sum_by-cons f x xs)
drop-at f (y ∷ xs) (suc i) x h = let next : suc i + 1 ≡ suc (i + 1) = omega arith in rw next (drop-at f xs i x h)

pub place-within : {X : Type 0} (xs : List X) (i : ℕ) (x : X) → slice_get xs i ≡ Some x → i + 1 ≤ length xs
place-within [] i x h = absurd (cc)
place-within (y ∷ xs) zero x h = omega arith
place-within (y ∷ xs) (suc i) x h = let ih = place-within xs i x h in omega (arith, ih)

-- a sum of sums
pub sum-both : {X : Type 0} (f g : X → ℕ) (k : ℕ) (xs : List X) → sum_by (λ x. k + (f x + g x)) xs ≡ k * length xs + (sum_by f xs + sum_by g xs)
sum-both f g k [] = omega arith
sum-both f g k (x ∷ xs) =
    let ih = sum-both f g k xs in
    rw (sum_by-cons (λ y. k + (f y + g y)) x xs, sum_by-cons f x xs, sum_by-cons g x xs, ih) (grind arith)

-- a test keeps fewer than there are where one doesn't pass
pub less-without : {X : Type 0} (q t : X → Bool) (xs : List X) → ((x : X) → t x ≡ true → q x ≡ false) → list_any t xs ≡ true → length (filter q xs) + 1 ≤ length xs
less-without q t [] fails any = absurd (false≢true any)
less-without q t (x ∷ xs) fails any =
    elim (cases_Bool (t x)) [
      | inl here ↦ (let short = filter-short q xs in rw (fails x here) (omega (arith, short)))
      | inr no' ↦ (
          let any' = rw no' at any in
          let ih = less-without q t xs fails any' in
          elim (cases_Bool (q x)) [ inl kept ↦ rw kept (omega (arith, ih)) | inr other ↦ rw other (omega (arith, ih)) ]
          )
    ]

-- one more of a count where it passes, and none where it doesn't
pub count-one : {X : Type 0} (p : X → Bool) (x : X) (xs : List X) → p x ≡ true → count_by p (x ∷ xs) ≡ 1 + count_by p xs
count-one p x xs here =
    let one = count-cons p x xs in
    let by : ◌≡◌ {A = ℕ} (if p x then 1 else 0) 1 = rw here refl in
    omega (arith, one, by)

pub count-over : {X : Type 0} (p : X → Bool) (x : X) (xs : List X) → p x ≡ false → count_by p (x ∷ xs) ≡ count_by p xs
count-over p x xs over =
    let one = count-cons p x xs in
    let by : ◌≡◌ {A = ℕ} (if p x then 1 else 0) 0 = rw over refl in
    omega (arith, one, by)

-- none is counted where none passes
pub none-counted : {X : Type 0} (p : X → Bool) (xs : List X) → list_any p xs ≡ false → count_by p xs ≡ 0
none-counted p [] none' = refl
none-counted p (x ∷ xs) none' =
    elim (cases_Bool (p x)) [
      | inl here ↦ (let wrong = rw here at none' in absurd (false≢true (sym wrong)))
      | inr no' ↦ (
          let rest = rw no' at none' in
          let ih = none-counted p xs rest in
          let over = count-over p x xs no' in
          omega (arith, ih, over)
          )
    ]

-- one at least is counted where one passes
pub some-counted : {X : Type 0} (p : X → Bool) (xs : List X) → list_any p xs ≡ true → 1 ≤ count_by p xs
some-counted p [] any = absurd (false≢true any)
some-counted p (x ∷ xs) any =
    elim (cases_Bool (p x)) [
      | inl here ↦ (let one = count-one p x xs here in omega (arith, one))
      | inr no' ↦ (
          let any' = rw no' at any in
          let ih = some-counted p xs any' in
          let over = count-over p x xs no' in
          omega (arith, ih, over)
          )
    ]

-- and one passes where one at least is counted
pub some-where-counted : {X : Type 0} (p : X → Bool) (xs : List X) → 1 ≤ count_by p xs → list_any p xs ≡ true
some-where-counted p xs some =
    elim (cases_Bool (list_any p xs)) [
      | inl any ↦ any
      | inr none' ↦ (let none'' = none-counted p xs none' in absurd (omega (arith, some, none'')))
    ]

-- a number from one to one
pub one-of : (k : ℕ) → 1 ≤ k → k ≤ 1 → (k == 1) ≡ true
one-of k low high = grind (arith, nat_tests, low, high)

-- what passes where none passed before is counted once
pub counts-once : {X : Type 0} (p : X → Bool) (x : X) (xs : List X) → (p x ≡ true → list_any p xs ≡ false) → count_by p xs ≡ (if list_any p xs then 1 else 0) → count_by p (x ∷ xs) ≡ (if list_any p (x ∷ xs) then 1 else 0)
counts-once p x xs first count =
    let more = count-cons p x xs in
    elim (cases_Bool (p x)) [
      | inl here ↦ (
          let none : count_by p xs ≡ 0 = rw (first here) at count in
          let one : ◌≡◌ {A = ℕ} (if p x then 1 else 0) 1 = rw here refl in
          let all : count_by p (x ∷ xs) ≡ 1 = omega (arith, more, one, none) in
          all ∙ rw here refl
          )
      | inr other ↦ (
          let zero' : ◌≡◌ {A = ℕ} (if p x then 1 else 0) 0 = rw other refl in
          let all : count_by p (x ∷ xs) ≡ count_by p xs = omega (arith, more, zero') in
          all ∙ (count ∙ rw other refl)
          )
    ]
