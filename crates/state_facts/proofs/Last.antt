-- The last element that passes, of a list that falls.
use Rattle.std.proofs.Common.{◌≡◌, ℕ, ◌==◌, Bool, true, false, ◌&&◌, ◌||◌, not, List, [], ◌∷◌, Option, Some, None, refl, arith, inl, inr, filter, find, map, nat_lt, option_map, if◌then◌else◌}
use Rattle.std.specs.List.{list_any, list_all}
use Rattle.std.specs.Option.{option_or}
use Rattle.std.proofs.lemmas.Bool.{and_from, and_parts, both_ways, cases_Bool, eq-eqb, eqb-true, false≢true, not-true, or_left, or_right}
use Rattle.std.proofs.lemmas.Bool.Decides.{nat_tests}
use Rattle.trace_laws.proofs.Printed.{one-of-all}
use Rattle.basic_lemmas.proofs.Lists.{all-where}

-- the last that passes
abbrev pub last_where : {X : Type 0} → (X → Bool) → List X → Option X
last_where p [] = None
last_where p (x ∷ xs) = option_or (last_where p xs) (if p x then Some x else None)

abbrev pub falls : List ℕ → Bool
falls [] = true
falls (x ∷ xs) = list_all (λ y. nat_lt y x) xs && falls xs

-- k passes, stands there, and none below it passes
pub record IsLast (p : ℕ → Bool) (xs : List ℕ) (k : ℕ) : Type 0 where
  pub passes : p k ≡ true
  pub among : list_any (λ x. x == k) xs ≡ true
  pub below : list_all (λ m. not (nat_lt m k) || not (p m)) xs ≡ true

none_step : (p : ℕ → Bool) (x : ℕ) (xs : List ℕ) (o : Option ℕ) → last_where p xs ≡ o → (last_where p xs ≡ None → list_all (λ m. not (p m)) xs ≡ true) → option_or o (if p x then Some x else None) ≡ None → list_all (λ m. not (p m)) (x ∷ xs) ≡ true
none_step p x xs (Some j) at ih h = absurd (cc)
none_step p x xs None at ih h =
    elim (cases_Bool (p x)) [
      | inl here ↦ (let h' = rw here at h in absurd (cc))
      | inr other ↦ rw (other, ih at) refl
    ]

pub last-none : (p : ℕ → Bool) (xs : List ℕ) → last_where p xs ≡ None → list_all (λ m. not (p m)) xs ≡ true
last-none p [] h = refl
last-none p (x ∷ xs) h = none_step p x xs (last_where p xs) refl (last-none p xs) h

not_below : (j x : ℕ) → nat_lt j x ≡ true → not (nat_lt x j) ≡ true
not_below j x h = grind (arith, nat_tests)

not_itself : (x : ℕ) → not (nat_lt x x) ≡ true
not_itself x = grind (arith, nat_tests)

last_step : (p : ℕ → Bool) (x : ℕ) (xs : List ℕ) (k : ℕ) (o : Option ℕ) → last_where p xs ≡ o → ((j : ℕ) → last_where p xs ≡ Some j → IsLast p xs j) → list_all (λ y. nat_lt y x) xs ≡ true → option_or o (if p x then Some x else None) ≡ Some k → IsLast p (x ∷ xs) k
last_step p x xs k (Some j) at ih low h =
    let same : j ≡ k = cc in
    let old : IsLast p xs k = ih k (rw same at at) in
    let less : nat_lt k x ≡ true = one-of-all (nat_lt k x ≡ true) (λ y. nat_lt y x) (λ y. y == k) xs (λ y l e. rw (eqb-true y k e) at l) low old.among in
    record {
      passes = old.passes;
      among = or_right (x == k) (list_any (λ y. y == k) xs) old.among;
      below = and_from (not (nat_lt x k) || not (p x)) (list_all (λ m. not (nat_lt m k) || not (p m)) xs) (or_left (not (nat_lt x k)) (not (p x)) (not_below k x less)) old.below;
    }
last_step p x xs k None at ih low h =
    elim (cases_Bool (p x)) [
      | inl here ↦ (
          let h' = rw here at h in
          let same : x ≡ k = cc in
          let passes : p k ≡ true = rw same at here in
          record {
            passes = passes;
            among = or_left (x == k) (list_any (λ y. y == k) xs) (eq-eqb x k same);
            below = rw same (and_from (not (nat_lt k k) || not (p k)) (list_all (λ m. not (nat_lt m k) || not (p m)) xs) (or_left (not (nat_lt k k)) (not (p k)) (not_itself k)) (all-where (λ m. not (p m)) (λ m. not (nat_lt m k) || not (p m)) xs (λ m none. or_right (not (nat_lt m k)) (not (p m)) none) (last-none p xs at)));
          }
          )
      | inr other ↦ (let h' = rw other at h in absurd (cc))
    ]

pub last-is : (p : ℕ → Bool) (xs : List ℕ) (k : ℕ) → falls xs ≡ true → last_where p xs ≡ Some k → IsLast p xs k
last-is p [] k fall h = absurd (cc)
last-is p (x ∷ xs) k fall h =
    let parts = and_parts (list_all (λ y. nat_lt y x) xs) (falls xs) fall in
    last_step p x xs k (last_where p xs) refl (λ j at. last-is p xs j parts.1 at) parts.0 h

-- ---- of a list that is mapped and filtered

pub first-kept : {X Y : Type 0} (s p : X → Bool) (k q : Y → Bool) (f : X → Y) (xs : List X) → ((x : X) → s x ≡ true → k (f x) ≡ false → p x ≡ false) → ((x : X) → s x ≡ true → q (f x) ≡ p x) → list_all s xs ≡ true → find q (filter k (map f xs)) ≡ option_map f (find p xs)
first-kept s p k q f [] out same all = refl
first-kept s p k q f (x ∷ xs) out same all =
    let parts = and_parts (s x) (list_all s xs) all in
    let ih = first-kept s p k q f xs out same parts.1 in
    elim (cases_Bool (k (f x))) [
      | inl kept ↦ elim (cases_Bool (p x)) [ inl here ↦ rw (kept, same x parts.0, here) refl | inr other ↦ rw (kept, same x parts.0, other) ih ]
      | inr gone ↦ rw (gone, out x parts.0 gone) ih
    ]

-- ---- what only one passes

pub find-none-all : (p : ℕ → Bool) (xs : List ℕ) → list_all (λ x. not (p x)) xs ≡ true → find p xs ≡ None
find-none-all p [] h = refl
find-none-all p (x ∷ xs) h =
    let parts = and_parts (not (p x)) (list_all (λ y. not (p y)) xs) h in
    rw (not-true (p x) parts.0, find-none-all p xs parts.1) refl

pub find-one : (p : ℕ → Bool) (k : ℕ) (xs : List ℕ) → ((x : ℕ) → p x ≡ true → x ≡ k) → list_any (λ x. x == k) xs ≡ true → find p xs ≡ (if p k then Some k else None)
find-one p k [] one any = absurd (false≢true any)
find-one p k (x ∷ xs) one any =
    elim (cases_Bool (p x)) [
      | inl here ↦ (let at = one x here in let here' : p k ≡ true = rw at at here in rw (at, here') refl)
      | inr other ↦ elim (cases_Bool (x == k)) [
        | inl same ↦ (
            let none : p k ≡ false = rw (eqb-true x k same) at other in
            rw (other, none) (find-none-all p xs (all-none p k xs one none))
            )
        | inr apart ↦ (let any' = rw apart at any in rw other (find-one p k xs one any'))
      ]
    ]
  where
    all-none : (p : ℕ → Bool) (k : ℕ) (xs : List ℕ) → ((x : ℕ) → p x ≡ true → x ≡ k) → p k ≡ false → list_all (λ x. not (p x)) xs ≡ true
    all-none p k [] one none = refl
    all-none p k (x ∷ xs) one none =
        elim (cases_Bool (p x)) [
          | inl here ↦ (let here' : p k ≡ true = rw (one x here) at here in absurd (both_ways (p k) none here'))
          | inr other ↦ rw (other, all-none p k xs one none) refl
        ]
