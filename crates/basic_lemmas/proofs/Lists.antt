-- Lemmas on lists.
use Rattle.std.proofs.Common.{◌≡◌, ℕ, ◌==◌, Bool, true, false, ◌||◌, not, List, [], ◌∷◌, ◌++◌, Some, None, length, filter, find, map, refl, arith, inl, inr, sym, reverse, ◌+◌, ◌-◌, ap, zero, suc, slice_get, take, if◌then◌else◌, ◌∙◌, is_some}
use Rattle.std.specs.List.{list_all, list_any, find}
use Rattle.std.specs.Option.{option_map}
use Rattle.std.proofs.lemmas.Bool.{and_from, and_parts, both_ways, cases_Bool, false≢true, eqb-true, or_right, eq-eqb}
use Rattle.std.proofs.lemmas.List.{map-append, reverse-append}
use Rattle.std.proofs.lemmas.List.Elements.{filter-append}
use Rattle.basic_lemmas.proofs.Tests.{or-crossed}
use Rattle.std.proofs.lemmas.List.Sorted.{IsPermutation-reverse, list_any-IsPermutation}
use Rattle.std.specs.Prelude.{slice_get}
use Rattle.std.proofs.lemmas.List.Folds.{list_all-append}

pub any-or : {X : Type 0} (p q : X → Bool) (xs : List X) → list_any (λ x. p x || q x) xs ≡ (list_any p xs || list_any q xs)
any-or p q [] = refl
any-or p q (x ∷ xs) = rw (any-or p q xs) (or-crossed (p x) (q x) (list_any p xs) (list_any q xs))

-- what no element passes isn't found
pub find-none : {X : Type 0} (p : X → Bool) (xs : List X) → ((x : X) → p x ≡ false) → find p xs ≡ None
find-none p [] h = refl
find-none p (x ∷ xs) h = rw (h x) (find-none p xs h)

-- of a list of which all pass a test, one that passes another passes both
pub both-pass : {X : Type 0} (p q t : X → Bool) (xs : List X) → ((x : X) → p x ≡ true → q x ≡ true → t x ≡ true) → list_all p xs ≡ true → list_any q xs ≡ true → list_any t xs ≡ true
both-pass p q t [] h all any = absurd (false≢true any)
both-pass p q t (x ∷ xs) h all any =
    let parts = and_parts (p x) (list_all p xs) all in
    elim (cases_Bool (q x)) [
      | inl yes' ↦ rw (h x parts.0 yes') refl
      | inr no' ↦ (let any' = rw no' at any in let ih = both-pass p q t xs h parts.1 any' in grind arith)
    ]

-- nothing passes a test that always fails
pub any-never : {X : Type 0} (t : X → Bool) (xs : List X) → ((x : X) → t x ≡ false) → list_any t xs ≡ false
any-never t [] h = refl
any-never t (x ∷ xs) h = rw (h x) (any-never t xs h)

-- one of the rest that passes is one of all
pub any-behind : {X : Type 0} (p : X → Bool) (x : X) (xs : List X) → list_any p xs ≡ true → list_any p (x ∷ xs) ≡ true
any-behind p x xs any = elim (cases_Bool (p x)) [ inl here ↦ rw here refl | inr no' ↦ rw no' any ]

-- where all pass a test, all pass one that says less
pub all-where : {X : Type 0} (p q : X → Bool) (xs : List X) → ((x : X) → p x ≡ true → q x ≡ true) → list_all p xs ≡ true → list_all q xs ≡ true
all-where p q [] more all = refl
all-where p q (x ∷ xs) more all =
    let parts = and_parts (p x) (list_all p xs) all in
    rw (more x parts.0, all-where p q xs more parts.1) refl

-- the same, of one that two tests together imply
pub all-where-both : {X : Type 0} (p q t : X → Bool) (xs : List X) → ((x : X) → p x ≡ true → q x ≡ true → t x ≡ true) → list_all p xs ≡ true → list_all q xs ≡ true → list_all t xs ≡ true
all-where-both p q t [] more all all' = refl
all-where-both p q t (x ∷ xs) more all all' =
    let parts = and_parts (p x) (list_all p xs) all in
    let parts' = and_parts (q x) (list_all q xs) all' in
    rw (more x parts.0 parts'.0, all-where-both p q t xs more parts.1 parts'.1) refl

-- one passes a test where one passes another that says more
pub any-where : {X : Type 0} (p q : X → Bool) (xs : List X) → ((x : X) → p x ≡ true → q x ≡ true) → list_any p xs ≡ true → list_any q xs ≡ true
any-where p q [] more any = absurd (false≢true any)
any-where p q (x ∷ xs) more any =
    elim (cases_Bool (p x)) [
      | inl here ↦ rw (more x here) refl
      | inr no' ↦ (let any' = rw no' at any in any-behind q x xs (any-where p q xs more any'))
    ]

-- what is found passes
pub found-any : {X : Type 0} (p : X → Bool) (xs : List X) (x : X) → find p xs ≡ Some x → list_any p xs ≡ true
found-any p [] x h = absurd (cc)
found-any p (y ∷ xs) x h =
    elim (cases_Bool (p y)) [
      | inl here ↦ rw here refl
      | inr no' ↦ (let h' = rw no' at h in any-behind p y xs (found-any p xs x h'))
    ]

-- a test that passes less finds none either
pub any-less : {X : Type 0} (p q : X → Bool) (xs : List X) → ((x : X) → q x ≡ true → p x ≡ true) → list_any p xs ≡ false → list_any q xs ≡ false
any-less p q xs less h =
    elim (cases_Bool (list_any q xs)) [
      | inl some ↦ absurd (both_ways (list_any p xs) h (any-where q p xs less some))
      | inr none ↦ none
    ]

pub all-always : {X : Type 0} (p : X → Bool) (xs : List X) → ((x : X) → p x ≡ true) → list_all p xs ≡ true
all-always p [] h = refl
all-always p (x ∷ xs) h = and_from (p x) (list_all p xs) (h x) (all-always p xs h)

pub all-append : {X : Type 0} (p : X → Bool) (xs ys : List X) → list_all p xs ≡ true → list_all p ys ≡ true → list_all p (xs ++ ys) ≡ true
all-append p [] ys a b = b
all-append p (x ∷ xs) ys a b =
    let parts = and_parts (p x) (list_all p xs) a in
    and_from (p x) (list_all p (xs ++ ys)) parts.0 (all-append p xs ys parts.1 b)

pub map-map : {X Y Z : Type 0} (f : Y → Z) (g : X → Y) (xs : List X) → map f (map g xs) ≡ map (λ x. f (g x)) xs
map-map f g [] = refl
map-map f g (x ∷ xs) = rw (map-map f g xs) refl

-- what agrees where a test passes gives the same list where all pass
pub map-where : {X Y : Type 0} (f g : X → Y) (p : X → Bool) (xs : List X) → ((x : X) → p x ≡ true → f x ≡ g x) → list_all p xs ≡ true → map f xs ≡ map g xs
map-where f g p [] same all = refl
map-where f g p (x ∷ xs) same all =
    let parts = and_parts (p x) (list_all p xs) all in
    rw (same x parts.0, map-where f g p xs same parts.1) refl

-- what is left out and stays left out can be left out before
pub filter-early : {X : Type 0} (p : X → Bool) (f : X → X) (xs : List X) → ((x : X) → p x ≡ false → p (f x) ≡ false) → filter p (map f (filter p xs)) ≡ filter p (map f xs)
filter-early p f [] stays = refl
filter-early p f (x ∷ xs) stays =
    let ih = filter-early p f xs stays in
    elim (cases_Bool (p x)) [
      | inl kept ↦ elim (cases_Bool (p (f x))) [ inl still ↦ rw (kept, still, ih) refl | inr gone ↦ rw (kept, gone, ih) refl ]
      | inr out ↦ rw (out, stays x out, ih) refl
    ]

pub all-filtered : {X : Type 0} (p q : X → Bool) (xs : List X) → list_all p xs ≡ true → list_all p (filter q xs) ≡ true
all-filtered p q [] all = refl
all-filtered p q (x ∷ xs) all =
    let parts = and_parts (p x) (list_all p xs) all in
    let ih = all-filtered p q xs parts.1 in
    elim (cases_Bool (q x)) [ inl kept ↦ rw (kept, parts.0, ih) refl | inr out ↦ rw out ih ]

-- one more, which is kept
pub filter-more : {X Y : Type 0} (k : Y → Bool) (f : X → Y) (xs : List X) (x : X) (y : Y) (ys : List Y) → f x ≡ y → k y ≡ true → filter k (map f xs) ≡ ys → filter k (map f (xs ++ x ∷ [])) ≡ ys ++ y ∷ []
filter-more k f xs x y ys same kept rest = rw (map-append f xs (x ∷ []), filter-append k (map f xs) (f x ∷ []), rest, same, kept) refl

pub all-mapped : {X Y : Type 0} (p : Y → Bool) (f : X → Y) (xs : List X) → list_all p (map f xs) ≡ list_all (λ x. p (f x)) xs
all-mapped p f [] = refl
all-mapped p f (x ∷ xs) = rw (all-mapped p f xs) refl

pub any-mapped : {X Y : Type 0} (p : Y → Bool) (f : X → Y) (xs : List X) → list_any p (map f xs) ≡ list_any (λ x. p (f x)) xs
any-mapped p f [] = refl
any-mapped p f (x ∷ xs) = rw (any-mapped p f xs) refl

-- what is true of all that is left out, and is the same of the others, holds of all where it holds of those kept
pub all-kept : {X Y : Type 0} (s p : X → Bool) (k q : Y → Bool) (f : X → Y) (xs : List X) → ((x : X) → s x ≡ true → k (f x) ≡ false → p x ≡ true) → ((x : X) → s x ≡ true → q (f x) ≡ p x) → list_all s xs ≡ true → list_all p xs ≡ list_all q (filter k (map f xs))
all-kept s p k q f [] out same all = refl
all-kept s p k q f (x ∷ xs) out same all =
    let parts = and_parts (s x) (list_all s xs) all in
    let ih = all-kept s p k q f xs out same parts.1 in
    elim (cases_Bool (k (f x))) [
      | inl kept ↦ rw (kept, ih, same x parts.0) refl
      | inr gone ↦ rw (gone, out x parts.0 gone, ih) refl
    ]

-- how many are kept, and whether any is
pub count-kept : {X Y : Type 0} (s p : X → Bool) (k : Y → Bool) (f : X → Y) (xs : List X) → ((x : X) → s x ≡ true → k (f x) ≡ p x) → list_all s xs ≡ true → length (filter p xs) ≡ length (filter k (map f xs))
count-kept s p k f [] same all = refl
count-kept s p k f (x ∷ xs) same all =
    let parts = and_parts (s x) (list_all s xs) all in
    let ih = count-kept s p k f xs same parts.1 in
    elim (cases_Bool (p x)) [ inl kept ↦ rw (same x parts.0, kept, ih) refl | inr gone ↦ rw (same x parts.0, gone) ih ]

pub find-mapped : {X Y : Type 0} (p : Y → Bool) (f : X → Y) (xs : List X) → find p (map f xs) ≡ option_map f (find (λ x. p (f x)) xs)
find-mapped p f [] = refl
find-mapped p f (x ∷ xs) = elim (cases_Bool (p (f x))) [ inl here ↦ rw here refl | inr other ↦ rw other (find-mapped p f xs) ]

pub filtered-all : {X : Type 0} (p : X → Bool) (xs : List X) → list_all p (filter p xs) ≡ true
filtered-all p [] = refl
filtered-all p (x ∷ xs) = elim (cases_Bool (p x)) [ inl here ↦ rw (here, here, filtered-all p xs) refl | inr other ↦ rw other (filtered-all p xs) ]

pub filter-none : {X : Type 0} (p : X → Bool) (xs : List X) → ((x : X) → p x ≡ false) → filter p xs ≡ []
filter-none p [] none = refl
filter-none p (x ∷ xs) none = rw (none x) (filter-none p xs none)

-- what a test keeps is kept by one that passes more, so where the first keeps nothing the second, which passes less, doesn't
pub filter-none-left : {X : Type 0} (p q : X → Bool) → ((x : X) → p x ≡ false → q x ≡ false) → (xs : List X) → filter p xs ≡ [] → filter q xs ≡ []
filter-none-left p q less [] h = refl
filter-none-left p q less (x ∷ xs) h =
    elim (cases_Bool (p x)) [
      | inl kept ↦ (let h' = rw kept at h in absurd (cc))
      | inr no' ↦ (let h' = rw no' at h in rw (less x no') (filter-none-left p q less xs h'))
    ]

-- leaving out what isn't there leaves the same
pub filter-same : {X : Type 0} (t n : X → Bool) (xs : List X) → list_any n xs ≡ false → filter (λ x. not (n x || t x)) xs ≡ filter (λ x. not (t x)) xs
filter-same t n [] h = refl
filter-same t n (x ∷ xs) h =
    elim (cases_Bool (n x)) [
      | inl here ↦ (let h' = rw here at h in absurd (cc))
      | inr no' ↦ (
          let h' = rw no' at h in
          let ih = filter-same t n xs h' in
          elim (cases_Bool (t x)) [ inl gone ↦ rw (no', gone) ih | inr free ↦ rw (no', free) (rw ih refl) ]
          )
    ]

-- the first that a filter keeps passes what all pass
pub first-passes : {X : Type 0} (p t : X → Bool) (y : X) (rest xs : List X) → list_all t xs ≡ true → filter p xs ≡ y ∷ rest → t y ≡ true
first-passes p t y rest [] all h = absurd (cc)
first-passes p t y rest (x ∷ xs) all h =
    let parts = and_parts (t x) (list_all t xs) all in
    elim (cases_Bool (p x)) [
      | inl kept ↦ (let h' = rw kept at h in let same : x ≡ y = cc in rw same at parts.0)
      | inr no' ↦ (let h' = rw no' at h in first-passes p t y rest xs parts.1 h')
    ]

-- what follows of one that all pass a test, and that passes another
pub one-kept : {X : Type 0} (P : Type 0) (p s t : X → Bool) (xs : List X) → ((x : X) → s x ≡ true → t x ≡ true → P) → list_all s xs ≡ true → list_any t (filter p xs) ≡ true → P
one-kept P p s t [] h all any = absurd (false≢true any)
one-kept P p s t (x ∷ xs) h all any =
    let parts = and_parts (s x) (list_all s xs) all in
    elim (cases_Bool (p x)) [
      | inl kept ↦ (
          let any' = rw kept at any in
          elim (cases_Bool (t x)) [ inl here ↦ h x parts.0 here | inr no' ↦ (let any'' = rw no' at any' in one-kept P p s t xs h parts.1 any'') ]
          )
      | inr no' ↦ (let any' = rw no' at any in one-kept P p s t xs h parts.1 any')
    ]

pub map-same : {X Y : Type 0} (f g : X → Y) (xs : List X) → ((x : X) → f x ≡ g x) → map f xs ≡ map g xs
map-same f g [] h = refl
map-same f g (x ∷ xs) h = rw (h x, map-same f g xs h) refl

pub all-agree : {X : Type 0} (p q : X → Bool) (xs : List X) → ((x : X) → p x ≡ q x) → list_all p xs ≡ list_all q xs
all-agree p q [] h = refl
all-agree p q (x ∷ xs) h = rw (h x, all-agree p q xs h) refl

pub any-at : (p : ℕ → Bool) (xs : List ℕ) (x : ℕ) → list_any (λ y. y == x) xs ≡ true → p x ≡ true → list_any p xs ≡ true
any-at p [] x h k = absurd (false≢true h)
any-at p (y ∷ xs) x h k =
    elim (cases_Bool (y == x)) [
      | inl here ↦ (let at = eqb-true y x here in rw (at, k) refl)
      | inr other ↦ (let h' = rw other at h in or_right (p y) (list_any p xs) (any-at p xs x h' k))
    ]

pub any-reversed : {X : Type 0} (p : X → Bool) (xs : List X) → list_any p (reverse xs) ≡ list_any p xs
any-reversed p xs = sym (list_any-IsPermutation p xs (reverse xs) (IsPermutation-reverse xs))

pub get-last : {X : Type 0} (xs : List X) (x : X) → slice_get (xs ++ x ∷ []) (length xs) ≡ Some x
get-last [] x = refl
get-last (z ∷ xs) x = get-last xs x

pub all-reversed : {X : Type 0} (p : X → Bool) (xs : List X) → list_all p xs ≡ true → list_all p (reverse xs) ≡ true
all-reversed p [] h = refl
all-reversed p (x ∷ xs) h =
    let parts = and_parts (p x) (list_all p xs) h in
    rw (reverse-append (x ∷ []) xs, list_all-append, all-reversed p xs parts.1, parts.0) refl

pub append-none : {X : Type 0} (xs : List X) → xs ++ [] ≡ xs
append-none [] = refl
append-none {X} (x ∷ xs) = ap (λ (z : List X). x ∷ z) (append-none xs)

pub any-agree : {X : Type 0} (p q : X → Bool) (xs : List X) → ((x : X) → p x ≡ q x) → list_any p xs ≡ list_any q xs
any-agree p q [] h = refl
any-agree p q (x ∷ xs) h = rw (h x, any-agree p q xs h) refl

pub found-passes : {X : Type 0} (p : X → Bool) (xs : List X) (x : X) → find p xs ≡ Some x → p x ≡ true
found-passes p [] x h = absurd (cc)
found-passes p (y ∷ xs) x h =
    elim (cases_Bool (p y)) [
      | inl here ↦ (let h' = rw here at h in let same : y ≡ x = cc in rw same at here)
      | inr other ↦ (let h' = rw other at h in found-passes p xs x h')
    ]

pub all-at : {X : Type 0} (p : X → Bool) (xs : List X) (i : ℕ) (x : X) → list_all p xs ≡ true → slice_get xs i ≡ Some x → p x ≡ true
all-at p [] i x all h = absurd (cc)
all-at p (y ∷ xs) zero x all h = let parts = and_parts (p y) (list_all p xs) all in let same : y ≡ x = cc in rw same at parts.0
all-at p (y ∷ xs) (suc i) x all h = all-at p xs i x (and_parts (p y) (list_all p xs) all).1 h

pub all-taken : {X : Type 0} (p : X → Bool) (n : ℕ) (xs : List X) → list_all p xs ≡ true → list_all p (take n xs) ≡ true
all-taken p zero xs h = refl
all-taken p (suc n) [] h = refl
all-taken p (suc n) (x ∷ xs) h = let q = and_parts (p x) (list_all p xs) h in and_from _ _ q.0 (all-taken p n xs q.1)

pub any-appended : {X : Type 0} (p : X → Bool) (xs ys : List X) → list_any p (xs ++ ys) ≡ (list_any p xs || list_any p ys)
any-appended p [] ys = refl
any-appended p (x ∷ xs) ys = rw (any-appended p xs ys) (again (p x) (list_any p xs) (list_any p ys))
  where
    again : (a b c : Bool) → (a || (b || c)) ≡ ((a || b) || c)
    again true b c = refl
    again false b c = refl

pub found-changed : {X : Type 0} (key : X → ℕ) (change : X → X) (n : ℕ) (xs : List X) → ((x : X) → key (change x) ≡ key x) → find (λ x. key x == n) (map (λ x. if key x == n then change x else x) xs) ≡ option_map change (find (λ x. key x == n) xs)
found-changed key change n [] same = refl
found-changed key change n (x ∷ xs) same =
    let ih = found-changed key change n xs same in
    elim (cases_Bool (key x == n)) [
      | inl here ↦ (let here' : (key (change x) == n) ≡ true = ap (λ k. k == n) (same x) ∙ here in rw (here, here') refl)
      | inr other ↦ rw (other, other) ih
    ]

pub filter-agree : {X : Type 0} (p q : X → Bool) (xs : List X) → ((x : X) → p x ≡ q x) → filter p xs ≡ filter q xs
filter-agree p q [] same = refl
filter-agree p q (x ∷ xs) same = rw (same x, filter-agree p q xs same) refl

pub any-first : {X : Type 0} (p : X → Bool) (xs ys : List X) → list_any p xs ≡ true → list_any p (xs ++ ys) ≡ true
any-first p [] ys h = absurd (false≢true h)
any-first p (x ∷ xs) ys h =
    elim (cases_Bool (p x)) [ inl here ↦ rw here refl | inr over ↦ (let h' = rw over at h in rw over (any-first p xs ys h')) ]

pub any-back : {X : Type 0} (p : X → Bool) (xs ys : List X) → list_any p ys ≡ true → list_any p (xs ++ ys) ≡ true
any-back p [] ys h = h
any-back p (x ∷ xs) ys h = or_right (p x) (list_any p (xs ++ ys)) (any-back p xs ys h)

pub any-found : {X : Type 0} (p : X → Bool) (xs : List X) → list_any p xs ≡ is_some (find p xs)
any-found p [] = refl
any-found p (x ∷ xs) = elim (cases_Bool (p x)) [ inl here ↦ rw here refl | inr other ↦ rw other (any-found p xs) ]

pub found-listed : (p : ℕ → Bool) (xs : List ℕ) (x : ℕ) → find p xs ≡ Some x → list_any (λ y. y == x) xs ≡ true
found-listed p [] x h = absurd (cc)
found-listed p (y ∷ xs) x h =
    elim (cases_Bool (p y)) [
      | inl here ↦ (let h' = rw here at h in let same : y ≡ x = cc in rw (eq-eqb y x same) refl)
      | inr other ↦ (let h' = rw other at h in or_right (y == x) (list_any (λ z. z == x) xs) (found-listed p xs x h'))
    ]

pub all-map : {X Y : Type 0} (p : Y → Bool) (f : X → Y) (xs : List X) → ((x : X) → p (f x) ≡ true) → list_all p (map f xs) ≡ true
all-map p f [] each = refl
all-map p f (x ∷ xs) each = rw (each x) (all-map p f xs each)

pub all-found : {X : Type 0} (p q : X → Bool) (xs : List X) (x : X) → list_all p xs ≡ true → find q xs ≡ Some x → p x ≡ true
all-found p q [] x all h = absurd (cc)
all-found p q (y ∷ xs) x all h =
    let parts = and_parts (p y) (list_all p xs) all in
    elim (cases_Bool (q y)) [
      | inl here ↦ (let h' = rw here at h in let same : y ≡ x = cc in rw same at parts.0)
      | inr other ↦ (let h' = rw other at h in all-found p q xs x parts.1 h')
    ]

take-one-more : {X : Type 0} (xs : List X) (p : ℕ) (x : X) → slice_get xs p ≡ Some x → take (suc p) xs ≡ take p xs ++ (x ∷ [])
take-one-more [] p x at = absurd (cc)
take-one-more (y ∷ xs) zero x at = let same : y ≡ x = cc in rw same refl
take-one-more (y ∷ xs) (suc p) x at = ap (λ l. y ∷ l) (take-one-more xs p x at)

-- the newest first, one element more stands before those before it
pub newest : {X : Type 0} (xs : List X) (p : ℕ) (x : X) → slice_get xs p ≡ Some x → reverse (take (suc p) xs) ≡ x ∷ reverse (take p xs)
newest xs p x at = ap reverse (take-one-more xs p x at) ∙ reverse-append (take p xs) (x ∷ [])
