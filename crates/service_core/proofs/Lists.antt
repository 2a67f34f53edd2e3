-- Lists of which the same passes a test.
use Rattle.std.proofs.Common.{◌≡◌, ℕ, zero, suc, ◌+◌, ◌<◌, Bool, true, false, not, List, [], ◌∷◌, ◌++◌, refl, sym, ap, ◌∙◌, inl, inr, arith, filter, length, map, slice_index_or}
use Rattle.std.specs.List.{flat_map, range_with_len}
use Rattle.std.proofs.lemmas.Bool.{cases_Bool}
use Rattle.std.proofs.lemmas.List.Elements.{filter-append}
use Rattle.service_state.specs.Serving.{unsignalled}

pub join-same : {X : Type 0} (q : X → Bool) (xs ys zs ws : List X) → filter q xs ≡ filter q ys → filter q zs ≡ filter q ws → filter q (xs ++ zs) ≡ filter q (ys ++ ws)
join-same q xs ys zs ws a b = rw (filter-append q xs zs, filter-append q ys ws, a, b) refl

pub keeps-none : {X Y : Type 0} (q : Y → Bool) (g : X → Y) (xs : List X) → ((x : X) → q (g x) ≡ false) → filter q (map g xs) ≡ []
keeps-none q g [] none = refl
keeps-none q g (x ∷ xs) none = rw (none x) (keeps-none q g xs none)

pub map-twice : {X Y Z : Type 0} (k : Y → Z) (f : X → Y) (g : X → Z) (xs : List X) → ((x : X) → g x ≡ k (f x)) → map g xs ≡ map k (map f xs)
map-twice k f g [] same = refl
map-twice k f g (x ∷ xs) same = rw (same x, map-twice k f g xs same) refl

-- ---- of all numbers, those with a row

pub rows-kept : {X R : Type 0} (q : X → Bool) (g : ℕ → X) (k : R → X) (f : ℕ → R) (p : ℕ → Bool) (xs : List ℕ) → ((x : ℕ) → g x ≡ k (f x)) → ((x : ℕ) → p x ≡ false → q (g x) ≡ false) → filter q (map g xs) ≡ filter q (map k (map f (filter p xs)))
rows-kept q g k f p [] same idle = refl
rows-kept q g k f p (x ∷ xs) same idle =
    let ih = rows-kept q g k f p xs same idle in
    elim (cases_Bool (p x)) [
      | inl yes' ↦ rw (yes', same x) (join-same q (k (f x) ∷ []) (k (f x) ∷ []) (map g xs) (map k (map f (filter p xs))) refl ih)
      | inr no' ↦ rw (no', idle x no') ih
    ]

pub flat-kept : {X R : Type 0} (q : X → Bool) (g : ℕ → List X) (k : R → List X) (f : ℕ → R) (p : ℕ → Bool) (xs : List ℕ) → ((x : ℕ) → g x ≡ k (f x)) → ((x : ℕ) → p x ≡ false → filter q (g x) ≡ []) → filter q (flat_map g xs) ≡ filter q (flat_map k (map f (filter p xs)))
flat-kept q g k f p [] same idle = refl
flat-kept q g k f p (x ∷ xs) same idle =
    let ih = flat-kept q g k f p xs same idle in
    elim (cases_Bool (p x)) [
      | inl yes' ↦ rw yes' (join-same q (g x) (k (f x)) (flat_map g xs) (flat_map k (map f (filter p xs))) (ap (λ ys. filter q ys) (same x)) ih)
      | inr no' ↦ rw no' (filter-append q (g x) (flat_map g xs) ∙ (ap (λ ys. ys ++ filter q (flat_map g xs)) (idle x no') ∙ ih))
    ]

-- ---- of numbers in a row, those from a number on

-- none of the first n passes
pub keeps-later : {X : Type 0} (q : X → Bool) (g : ℕ → X) (a n m b : ℕ) → a + n ≡ b → ((x : ℕ) → x < b → q (g x) ≡ false) → filter q (map g (range_with_len a (n + m))) ≡ filter q (map g (range_with_len b m))
keeps-later q g a zero m b at none =
    let start : a ≡ b = omega (arith, at) in
    let same : 0 + m ≡ m = omega arith in
    rw (start, same) refl
keeps-later q g a (suc n) m b at none =
    let more : suc n + m ≡ suc (n + m) = omega arith in
    rw (more, none a (omega (arith, at))) (keeps-later q g (a + 1) n m b (omega (arith, at)) none)

-- those that a list of marks leaves
pub keeps-unmarked : {X : Type 0} (q : X → Bool) (g : ℕ → X) (n : ℕ) (marks : List Bool) → ((k : ℕ) → k < length marks → q (g (n + k)) ≡ not (slice_index_or marks k false)) → filter q (map g (range_with_len n (length marks))) ≡ map g (unsignalled n marks)
keeps-unmarked q g n [] each = refl
keeps-unmarked q g n (mark ∷ marks) each =
    let start : n + 0 ≡ n = omega arith in
    let first : q (g n) ≡ not mark = ap (λ i. q (g i)) (sym start) ∙ each 0 (omega arith) in
    let ih = keeps-unmarked q g (n + 1) marks (λ k l. ap (λ i. q (g i)) (omega arith) ∙ each (suc k) (omega (arith, l))) in
    by mark first ih
  where
    by : (b : Bool) → q (g n) ≡ not b → filter q (map g (range_with_len (n + 1) (length marks))) ≡ map g (unsignalled (n + 1) marks) → filter q (map g (range_with_len n (length (b ∷ marks)))) ≡ map g (unsignalled n (b ∷ marks))
    by true first ih = rw first ih
    by false first ih = rw (first, ih) refl

-- ---- kind by kind

pub kept-apart : {X K : Type 0} (q : X → Bool) (f : K → List X) (ks : List K) → filter q (flat_map f ks) ≡ flat_map (λ k. filter q (f k)) ks
kept-apart q f [] = refl
kept-apart q f (k ∷ ks) = filter-append q (f k) (flat_map f ks) ∙ ap (λ ys. filter q (f k) ++ ys) (kept-apart q f ks)
