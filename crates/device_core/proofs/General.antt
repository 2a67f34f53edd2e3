-- General lemmas on lists whose keys rise: they are of no row.
use Rattle.std.proofs.Common.{◌≡◌, ℕ, zero, suc, ◌+◌, Bool, true, false, ◌==◌, not, nat_lt, if◌then◌else◌, List, [], ◌∷◌, ◌++◌, length, map, filter, drop, Option, Some, None, slice_get, slice_set, refl, ◌∙◌, ap, arith, inl, inr}
use Rattle.std.specs.List.{find, list_all, remove}
use Rattle.std.proofs.lemmas.Bool.{and_parts, cases_Bool}
use Rattle.std.proofs.lemmas.Bool.Decides.{nat_tests}
use Rattle.std.proofs.lemmas.Grind.{common_steps}
use Rattle.std.specs.Option.{option_map}
use Rattle.device_core.specs.Stored.{rises}
use Rattle.basic_lemmas.proofs.Lists.{all-agree, all-append, all-filtered, all-mapped, map-where, all-at, all-found}

pub find-passes : {X : Type 0} (p : X → Bool) (t : X → Bool) (xs : List X) (x : X) → list_all t xs ≡ true → find p xs ≡ Some x → t x ≡ true
find-passes p t xs x all h = all-found t p xs x all h

-- what is left from a place on, by what stands there
pub drop-here : {X : Type 0} (xs : List X) (i : ℕ) (x : X) → slice_get xs i ≡ Some x → drop i xs ≡ x ∷ drop (i + 1) xs
drop-here [] i x h = absurd (cc)
drop-here (y ∷ xs) zero x h = let same : y ≡ x = cc in rw same refl
drop-here (y ∷ xs) (suc i) x h = let next : suc i + 1 ≡ suc (i + 1) = omega arith in rw next (drop-here xs i x h)

-- and where nothing stands
pub drop-over : {X : Type 0} (xs : List X) (i : ℕ) → slice_get xs i ≡ None → drop (i + 1) xs ≡ drop i xs
drop-over [] zero h = refl
drop-over [] (suc i) h = let next : suc i + 1 ≡ suc (i + 1) = omega arith in rw next refl
drop-over (y ∷ xs) zero h = absurd (cc)
drop-over (y ∷ xs) (suc i) h = let next : suc i + 1 ≡ suc (i + 1) = omega arith in rw next (drop-over xs i h)

other-above : (k m n : ℕ) → (k == n) ≡ true → nat_lt k m ≡ true → (m == n) ≡ false
other-above k m n here above = grind (arith, nat_tests, here, above)

other-below : (k m n : ℕ) → m ≡ n → nat_lt k m ≡ true → (k == n) ≡ false
other-below k m n here above = grind (arith, nat_tests, here, above)

map-id : {X : Type 0} (xs : List X) → map (λ z. z) xs ≡ xs
map-id [] = refl
map-id (x ∷ xs) = rw (map-id xs) refl

module _ {X : Type 0} (key : X → ℕ) where
  -- two maps that differ at the one of key n alone, and agree there
  pub map-at : {Y : Type 0} (f g : X → Y) (n : ℕ) (xs : List X) (x : X) → rises key xs ≡ true → find (λ y. key y == n) xs ≡ Some x → f x ≡ g x → ((y : X) → (key y == n) ≡ false → f y ≡ g y) → map f xs ≡ map g xs
  map-at f g n [] x order h here other = absurd (cc)
  map-at {Y} f g n (y ∷ xs) x order h here other =
      let parts = and_parts (list_all (λ z. nat_lt (key y) (key z)) xs) (rises key xs) order in
      elim (cases_Bool (key y == n)) [
        | inl at ↦ (
            let h' = rw at at h in
            let same : y ≡ x = cc in
            let rest = map-where f g (λ z. nat_lt (key y) (key z)) xs (λ z above. other z (other-above (key y) (key z) n at above)) parts.0 in
            let head : f y ≡ g y = rw same here in
            rw (head, rest) refl
            )
        | inr no' ↦ (
            let h' = rw no' at h in
            let ih = map-at f g n xs x parts.1 h' here other in
            rw (other y no', ih) refl
            )
      ]

  -- what all pass, the one of key n once it is changed too
  pub kept-at : (p : X → Bool) (change : X → X) (n : ℕ) (xs : List X) (x : X) → rises key xs ≡ true → find (λ y. key y == n) xs ≡ Some x → list_all p xs ≡ true → p (change x) ≡ true → list_all p (map (λ y. if key y == n then change y else y) xs) ≡ true
  kept-at p change n [] x order h all here = refl
  kept-at p change n (y ∷ xs) x order h all here =
      let parts = and_parts (list_all (λ z. nat_lt (key y) (key z)) xs) (rises key xs) order in
      let each = and_parts (p y) (list_all p xs) all in
      elim (cases_Bool (key y == n)) [
        | inl at ↦ (
            let h' = rw at at h in
            let same : y ≡ x = cc in
            let rest = map-where (λ z. if key z == n then change z else z) (λ z. z) (λ z. nat_lt (key y) (key z)) xs (λ z above. rw (other-above (key y) (key z) n at above) refl) parts.0 in
            let id : map (λ z. z) xs ≡ xs = map-id xs in
            let head : p (change y) ≡ true = rw same here in
            rw (at, head, rest, id) each.1
            )
        | inr no' ↦ (
            let h' = rw no' at h in
            let ih = kept-at p change n xs x parts.1 h' each.1 here in
            rw (no', each.0, ih) refl
            )
      ]

  none-above : (change : X → X) (k n : ℕ) (xs : List X) → (k == n) ≡ true → list_all (λ z. nat_lt k (key z)) xs ≡ true → map (λ y. if key y == n then change y else y) xs ≡ xs
  none-above change k n [] at above = refl
  none-above change k n (y ∷ xs) at above =
      let parts = and_parts (nat_lt k (key y)) (list_all (λ z. nat_lt k (key z)) xs) above in
      let no' = other-above k (key y) n at parts.0 in
      rw (no', none-above change k n xs at parts.1) refl

  -- the change of the one of key n is at its place
  pub changed-at : (change : X → X) (n i : ℕ) (xs : List X) (x : X) → rises key xs ≡ true → slice_get xs i ≡ Some x → key x ≡ n → map (λ y. if key y == n then change y else y) xs ≡ slice_set xs i (change x)
  changed-at change n i [] x order h is = absurd (cc)
  changed-at change n zero (y ∷ xs) x order h is =
      let parts = and_parts (list_all (λ z. nat_lt (key y) (key z)) xs) (rises key xs) order in
      let same : y ≡ x = cc in
      let at : (key y == n) ≡ true = rw same (grind (arith, nat_tests, is)) in
      let rest = none-above change (key y) n xs at parts.0 in
      let head : change y ≡ change x = ap change same in
      rw (at, rest, head) refl
  changed-at change n (suc i) (y ∷ xs) x order h is =
      let parts = and_parts (list_all (λ z. nat_lt (key y) (key z)) xs) (rises key xs) order in
      let above = all-at (λ z. nat_lt (key y) (key z)) xs i x parts.0 h in
      let no' = other-below (key y) (key x) n is above in
      let ih = changed-at change n i xs x parts.1 h is in
      rw (no', ih) refl

  kept-above : (k n : ℕ) (xs : List X) → (k == n) ≡ true → list_all (λ z. nat_lt k (key z)) xs ≡ true → filter (λ y. not (key y == n)) xs ≡ xs
  kept-above k n [] at above = refl
  kept-above k n (y ∷ xs) at above =
      let parts = and_parts (nat_lt k (key y)) (list_all (λ z. nat_lt k (key z)) xs) above in
      let no' = other-above k (key y) n at parts.0 in
      rw (no', kept-above k n xs at parts.1) refl

  -- without the one of key n is without its place
  pub removed-at : (n i : ℕ) (xs : List X) (x : X) → rises key xs ≡ true → slice_get xs i ≡ Some x → key x ≡ n → filter (λ y. not (key y == n)) xs ≡ remove xs i
  removed-at n i [] x order h is = absurd (cc)
  removed-at n zero (y ∷ xs) x order h is =
      let parts = and_parts (list_all (λ z. nat_lt (key y) (key z)) xs) (rises key xs) order in
      let same : y ≡ x = cc in
      let at : (key y == n) ≡ true = rw same (grind (arith, nat_tests, is)) in
      rw (at, kept-above (key y) n xs at parts.0) refl
  removed-at n (suc i) (y ∷ xs) x order h is =
      let parts = and_parts (list_all (λ z. nat_lt (key y) (key z)) xs) (rises key xs) order in
      let above = all-at (λ z. nat_lt (key y) (key z)) xs i x parts.0 h in
      let no' = other-below (key y) (key x) n is above in
      let ih = removed-at n i xs x parts.1 h is in
      rw (no', ih) refl

pub rises-push : {X : Type 0} (key : X → ℕ) (xs : List X) (x : X) → rises key xs ≡ true → list_all (λ y. nat_lt (key y) (key x)) xs ≡ true → rises key (xs ++ x ∷ []) ≡ true
rises-push key [] x order below = refl
rises-push key (y ∷ xs) x order below =
    let parts = and_parts (list_all (λ z. nat_lt (key y) (key z)) xs) (rises key xs) order in
    let low = and_parts (nat_lt (key y) (key x)) (list_all (λ z. nat_lt (key z) (key x)) xs) below in
    let last : list_all (λ z. nat_lt (key y) (key z)) (x ∷ []) ≡ true = rw low.0 refl in
    let above = all-append (λ z. nat_lt (key y) (key z)) xs (x ∷ []) parts.0 last in
    rw (above, rises-push key xs x parts.1 low.1) refl

pub rises-mapped : {X : Type 0} (key : X → ℕ) (f : X → X) (xs : List X) → ((x : X) → key (f x) ≡ key x) → rises key (map f xs) ≡ rises key xs
rises-mapped key f [] same = refl
rises-mapped key f (x ∷ xs) same =
    let above = all-mapped (λ z. nat_lt (key x) (key z)) f xs ∙ all-agree (λ z. nat_lt (key x) (key (f z))) (λ z. nat_lt (key x) (key z)) xs (λ z. ap (λ k. nat_lt (key x) k) (same z)) in
    rw (same x, above, rises-mapped key f xs same) refl

pub rises-drop : {X : Type 0} (key : X → ℕ) (xs : List X) (i : ℕ) → rises key xs ≡ true → rises key (drop i xs) ≡ true
rises-drop key xs zero order = order
rises-drop key [] (suc i) order = refl
rises-drop key (x ∷ xs) (suc i) order = rises-drop key xs i (and_parts (list_all (λ y. nat_lt (key x) (key y)) xs) (rises key xs) order).1

pub rises-filtered : {X : Type 0} (key : X → ℕ) (p : X → Bool) (xs : List X) → rises key xs ≡ true → rises key (filter p xs) ≡ true
rises-filtered key p [] order = refl
rises-filtered key p (x ∷ xs) order =
    let parts = and_parts (list_all (λ z. nat_lt (key x) (key z)) xs) (rises key xs) order in
    let ih = rises-filtered key p xs parts.1 in
    elim (cases_Bool (p x)) [
      | inl kept ↦ rw (kept, all-filtered (λ z. nat_lt (key x) (key z)) p xs parts.0, ih) refl
      | inr gone ↦ rw gone ih
    ]

count-head : {X : Type 0} (a b : Bool) (x y : X) (xs ys : List X) → length xs ≡ length ys → length (if b then y ∷ xs else xs) + (if a then 1 else 0) ≡ length (if a then x ∷ ys else ys) + (if b then 1 else 0)
count-head true true x y xs ys same = omega (arith, same)
count-head true false x y xs ys same = omega (arith, same)
count-head false true x y xs ys same = omega (arith, same)
count-head false false x y xs ys same = omega (arith, same)

count-past : {X : Type 0} (a : Bool) (y : X) (xs ys : List X) (k m : ℕ) → length xs + k ≡ length ys + m → length (if a then y ∷ xs else xs) + k ≡ length (if a then y ∷ ys else ys) + m
count-past true y xs ys k m same = omega (arith, same)
count-past false y xs ys k m same = same

count-same : {X : Type 0} (key : X → ℕ) (p : X → Bool) (change : X → X) (k n : ℕ) (xs : List X) → (k == n) ≡ true → list_all (λ z. nat_lt k (key z)) xs ≡ true → length (filter p (map (λ y. if key y == n then change y else y) xs)) ≡ length (filter p xs)
count-same {X} key p change k n xs at above = ap (λ (z : List X). length (filter p z)) (none-above key change k n xs at above)

-- how many pass once the one of key n is changed
pub count-at : {X : Type 0} (key : X → ℕ) (p : X → Bool) (change : X → X) (n : ℕ) (xs : List X) (x : X) → rises key xs ≡ true → find (λ y. key y == n) xs ≡ Some x → length (filter p (map (λ y. if key y == n then change y else y) xs)) + (if p x then 1 else 0) ≡ length (filter p xs) + (if p (change x) then 1 else 0)
count-at key p change n [] x order h = absurd (cc)
count-at key p change n (y ∷ xs) x order h =
    let parts = and_parts (list_all (λ z. nat_lt (key y) (key z)) xs) (rises key xs) order in
    elim (cases_Bool (key y == n)) [
      | inl at ↦ (
          let h' = rw at at h in
          let same : y ≡ x = cc in
          let rest = count-same key p change (key y) n xs at parts.0 in
          rw (at, same) (count-head (p x) (p (change x)) x (change x) _ (filter p xs) rest)
          )
      | inr no' ↦ (
          let h' = rw no' at h in
          let ih = count-at key p change n xs x parts.1 h' in
          rw no' (count-past (p y) y _ (filter p xs) _ _ ih)
          )
    ]

pub map-removed : {X Y : Type 0} (f : X → Y) (xs : List X) (i : ℕ) → map f (remove xs i) ≡ remove (map f xs) i
map-removed f [] zero = refl
map-removed f [] (suc i) = refl
map-removed f (x ∷ xs) zero = refl
map-removed f (x ∷ xs) (suc i) = rw (map-removed f xs i) refl

-- the first that passes is further on
pub find-next : {X Y : Type 0} (p : X → Bool) (f : X → Y) (q : Y → Bool) (xs : List X) (i : ℕ) (o : Option X) (y : Y) → ((x : X) → p x ≡ q (f x)) → slice_get xs i ≡ o → option_map f o ≡ Some y → q y ≡ false → find p (drop i xs) ≡ find p (drop (i + 1) xs)
find-next p f q [] i o y same at is no' = grind (arith, common_steps)
find-next p f q (x ∷ xs) zero None y same at is no' = absurd (cc)
find-next p f q (x ∷ xs) zero (Some z) y same at is no' =
    let e : x ≡ z = cc in
    let e' : f z ≡ y = cc in
    let over : p x ≡ false = rw e (same z ∙ (ap q e' ∙ no')) in
    rw over refl
find-next p f q (x ∷ xs) (suc i) o y same at is no' = let next : suc i + 1 ≡ suc (i + 1) = omega arith in rw next (find-next p f q xs i o y same at is no')

-- and where there is none any more
pub find-past-end : {X Y : Type 0} (p : X → Bool) (f : X → Y) (xs : List X) (i : ℕ) (o : Option X) → slice_get xs i ≡ o → option_map f o ≡ None → find p (drop i xs) ≡ find p (drop (i + 1) xs)
find-past-end p f [] i o at is = grind (arith, common_steps)
find-past-end p f (x ∷ xs) zero None at is = absurd (cc)
find-past-end p f (x ∷ xs) zero (Some z) at is = absurd (cc)
find-past-end p f (x ∷ xs) (suc i) o at is = let next : suc i + 1 ≡ suc (i + 1) = omega arith in rw next (find-past-end p f xs i o at is)
