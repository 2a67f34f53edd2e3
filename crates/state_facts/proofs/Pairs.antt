-- Of two lists whose elements go together in pairs, each with one of the other, as many have a partner.
use Rattle.std.proofs.Common.{◌≡◌, ℕ, ◌==◌, ◌+◌, Bool, true, false, not, List, [], ◌∷◌, refl, sym, ◌∙◌, arith, inl, inr, count_by, filter, length, map, sum_by, if◌then◌else◌}
use Rattle.std.specs.List.{list_any, list_all}
use Rattle.std.proofs.lemmas.Bool.{and_parts, cases_Bool, eq-eqb, false≢true, not-true}
use Rattle.std.proofs.lemmas.List.Sums.{sum_by-cons}
use Rattle.trace_laws.proofs.BufferSends.{is_distinct}
use Rattle.basic_lemmas.proofs.Counts.{count-over, count-cons}

pub count-length : {X : Type 0} (p : X → Bool) (xs : List X) → length (filter p xs) ≡ count_by p xs
count-length p [] = refl
count-length p (x ∷ xs) =
    let ih = count-length p xs in
    let one = count-cons p x xs in
    elim (cases_Bool (p x)) [
      | inl here ↦ (let one' = rw here at one in rw here (omega (arith, ih, one')))
      | inr other ↦ (let one' = rw other at one in rw other (omega (arith, ih, one')))
    ]

pub count-where : {X : Type 0} (s p q : X → Bool) (xs : List X) → ((x : X) → s x ≡ true → p x ≡ q x) → list_all s xs ≡ true → count_by p xs ≡ count_by q xs
count-where s p q [] same all = refl
count-where s p q (x ∷ xs) same all =
    let parts = and_parts (s x) (list_all s xs) all in
    rw (count-cons p x xs, count-cons q x xs, same x parts.0, count-where s p q xs same parts.1) refl

-- what is left out isn't counted
pub count-rows : {X Y : Type 0} (s : X → Bool) (k q : Y → Bool) (f : X → Y) (xs : List X) → ((x : X) → s x ≡ true → k (f x) ≡ false → q (f x) ≡ false) → list_all s xs ≡ true → count_by q (filter k (map f xs)) ≡ count_by (λ x. q (f x)) xs
count-rows s k q f [] out all = refl
count-rows s k q f (x ∷ xs) out all =
    let parts = and_parts (s x) (list_all s xs) all in
    let ih = count-rows s k q f xs out parts.1 in
    elim (cases_Bool (k (f x))) [
      | inl kept ↦ rw (kept, count-cons q (f x) (filter k (map f xs)), count-cons (λ y. q (f y)) x xs, ih) refl
      | inr gone ↦ rw (gone, count-over (λ y. q (f y)) x xs (out x parts.0 gone)) ih
    ]

abbrev pub IsAlone : (ℕ → Bool) → Type 0
IsAlone p = (y z : ℕ) → p y ≡ true → p z ≡ true → y ≡ z

none_counted : (p : ℕ → Bool) (y : ℕ) (ys : List ℕ) → IsAlone p → p y ≡ true → list_any (λ z. z == y) ys ≡ false → count_by p ys ≡ 0
none_counted p y [] one here none = refl
none_counted p y (z ∷ ys) one here none =
    elim (cases_Bool (p z)) [
      | inl there ↦ (let at : (z == y) ≡ true = eq-eqb z y (one z y there here) in let none' : true ≡ false = rw at at none in absurd (false≢true (sym none')))
      | inr other ↦ elim (cases_Bool (z == y)) [
        | inl same ↦ (let none' : true ≡ false = rw same at none in absurd (false≢true (sym none')))
        | inr apart ↦ (let none' = rw apart at none in rw (count-over p z ys other) (none_counted p y ys one here none'))
      ]
    ]

pub one-count : (p : ℕ → Bool) (ys : List ℕ) → IsAlone p → is_distinct ys ≡ true → count_by p ys ≡ (if list_any p ys then 1 else 0)
one-count p [] one distinct = refl
one-count p (y ∷ ys) one distinct =
    let parts = and_parts (not (list_any (λ u. u == y) ys)) (is_distinct ys) distinct in
    elim (cases_Bool (p y)) [
      | inl here ↦ rw (count-cons p y ys, here, none_counted p y ys one here (not-true (list_any (λ u. u == y) ys) parts.0)) refl
      | inr other ↦ rw (count-over p y ys other, other) (one-count p ys one parts.1)
    ]

swap_sums : (r : ℕ → ℕ → Bool) (xs ys : List ℕ) → sum_by (λ x. count_by (r x) ys) xs ≡ sum_by (λ y. count_by (λ x. r x y) xs) ys
swap_sums r [] ys = sym (zeros ys)
  where
    zeros : (ys : List ℕ) → sum_by (λ y. 0) ys ≡ 0
    zeros [] = refl
    zeros (y ∷ ys) = let one = sum_by-cons {X = ℕ} (λ z. 0) y ys in let ih = zeros ys in omega (arith, one, ih)
swap_sums r (x ∷ xs) ys =
    rw (sum_by-cons (λ z. count_by (r z) ys) x xs, swap_sums r xs ys) (more ys)
  where
    more : (ys : List ℕ) → count_by (r x) ys + sum_by (λ y. count_by (λ z. r z y) xs) ys ≡ sum_by (λ y. count_by (λ z. r z y) (x ∷ xs)) ys
    more [] = refl
    more (y ∷ ys) =
        let ih = more ys in
        let a = count-cons (r x) y ys in
        let b = sum_by-cons (λ w. count_by (λ z. r z w) xs) y ys in
        let c = sum_by-cons (λ w. count_by (λ z. r z w) (x ∷ xs)) y ys in
        let d = count-cons (λ z. r z y) x xs in
        omega (arith, ih, a, b, c, d)

sum_ones : (f : ℕ → ℕ) (p : ℕ → Bool) (xs : List ℕ) → ((x : ℕ) → f x ≡ (if p x then 1 else 0)) → sum_by f xs ≡ count_by p xs
sum_ones f p [] one = refl
sum_ones f p (x ∷ xs) one = rw (sum_by-cons f x xs, count-cons p x xs, one x, sum_ones f p xs one) refl

pub pairs : (r : ℕ → ℕ → Bool) (xs ys : List ℕ) → ((x : ℕ) → IsAlone (r x)) → ((y : ℕ) → IsAlone (λ x. r x y)) → is_distinct xs ≡ true → is_distinct ys ≡ true → count_by (λ x. list_any (r x) ys) xs ≡ count_by (λ y. list_any (λ x. r x y) xs) ys
pairs r xs ys one one' dx dy =
    sym (sum_ones (λ x. count_by (r x) ys) (λ x. list_any (r x) ys) xs (λ x. one-count (r x) ys (one x) dy))
    ∙ (swap_sums r xs ys ∙ sum_ones (λ y. count_by (λ x. r x y) xs) (λ y. list_any (λ x. r x y) xs) ys (λ y. one-count (λ x. r x y) xs (one' y) dx))
