-- Walks over the pieces of a list: what is found in the rest is found in all.
use Rattle.std.proofs.Common.{arith, ◌≡◌, ◌<◌, ◌≤◌, ℕ, zero, suc, ◌+◌, ◌-◌, Bool, true, false, List, [], ◌∷◌, ◌++◌, Some, Result, Ok, Err, refl, ap, ◌∙◌, add-one, drop, drop-cons, filter, get_or, length, length-append, map, slice_get}
use Rattle.std.specs.List.{flat_map, range_with_len}
use Rattle.std.proofs.lemmas.List.{map-append}
use Rattle.std.proofs.lemmas.List.Elements.{filter-append}
use Rattle.service_core.specs.Finding.{Finds}

-- ---- one list and then another

found-first : {X : Type 0} (xs ys : List X) (n : ℕ) (x : X) → slice_get xs n ≡ Some x → slice_get (xs ++ ys) n ≡ Some x
found-first [] ys n x at = absurd (cc)
found-first (y ∷ xs) ys zero x at = at
found-first (y ∷ xs) ys (suc n) x at = found-first xs ys n x at

found-second : {X : Type 0} (xs ys : List X) (n k : ℕ) → n ≡ k + length xs → slice_get (xs ++ ys) n ≡ slice_get ys k
found-second [] ys n k past = (let same : n ≡ k = omega (arith, past) in rw same refl)
found-second (y ∷ xs) ys zero k past = absurd (omega (arith, past))
found-second (y ∷ xs) ys (suc n) k past = found-second xs ys n k (omega (arith, past))

finds-both : {X : Type 0} (xs ys : List X) (n k : ℕ) (r : Result X ℕ) → n ≡ k + length xs → Finds ys k r → Finds (xs ++ ys) n r
finds-both xs ys n k (Ok x) past found = found-second xs ys n k past ∙ found
finds-both xs ys n k (Err left) past over =
    let both : length (xs ++ ys) ≡ length xs + length ys = length-append xs ys in
    omega (arith, past, over, both)

-- ---- a walk that goes on

-- what is found in the rest with number k is found in all with number n
abbrev pub Continues : {X : Type 0} → List X → ℕ → List X → ℕ → Type 0
Continues {X} all n rest k = (r : Result X ℕ) → Finds rest k r → Finds all n r

-- what a turn of the walk comes to: the value is found, or the walk goes on with ys
abbrev pub Turns : {X : Type 0} → List X → ℕ → List X → Result X ℕ → Type 0
Turns all n ys (Ok x) = slice_get all n ≡ Some x
Turns all n ys (Err j) = Continues all n ys j

-- it looks for the value in the first piece of the rest
pub turns : {X : Type 0} (all rest xs ys : List X) (n k : ℕ) → Continues all n rest k → rest ≡ xs ++ ys → (r : Result X ℕ) → Finds xs k r → Turns all n ys r
turns all rest xs ys n k goes is (Ok x) at = goes (Ok x) (rw is (found-first xs ys k x at))
turns all rest xs ys n k goes is (Err j) past = λ r found. goes r (rw is (finds-both xs ys k j r past found))

-- nothing is left
pub ends : {X : Type 0} (all rest : List X) (n k : ℕ) → Continues all n rest k → rest ≡ [] → n ≡ k + length all
ends all rest n k goes is = goes (Err k) (rw is (omega arith))

-- none is there
pub none_left : {X : Type 0} (xs : List X) (n : ℕ) → xs ≡ [] → n ≡ n + length xs
none_left xs n is = rw is (omega arith)

-- ---- the pieces

rest-suc : {K : Type 0} (ks : List K) (i : ℕ) (k : K) → slice_get ks i ≡ Some k → drop i ks ≡ k ∷ drop (suc i) ks
rest-suc [] i k at = absurd (cc)
rest-suc (x ∷ ks) zero k at = let same : x ≡ k = cc in rw same refl
rest-suc (x ∷ ks) (suc i) k at = rest-suc ks i k at

-- from place i on, at which k stands
pub rest_at : {K : Type 0} (ks : List K) (i : ℕ) (k : K) → slice_get ks i ≡ Some k → drop i ks ≡ k ∷ drop (i + 1) ks
rest_at ks i k at = rw add-one (rest-suc ks i k at)

pub rest_or : {K : Type 0} (ks : List K) (i : ℕ) (d : K) → i < length ks → drop i ks ≡ get_or ks i d ∷ drop (i + 1) ks
rest_or ks i d less = rw add-one (drop-cons ks i d less)

pub rest_none : {K : Type 0} (ks : List K) (i : ℕ) → length ks ≤ i → drop i ks ≡ []
rest_none [] zero past = refl
rest_none [] (suc i) past = refl
rest_none (k ∷ ks) zero past = absurd (omega (arith, past))
rest_none (k ∷ ks) (suc i) past = rest_none ks i (omega (arith, past))

-- from number a + n on, of m numbers from a on
pub row_rest : (a m n : ℕ) → n < m → range_with_len (a + n) (m - n) ≡ (a + n) ∷ range_with_len (a + (n + 1)) (m - (n + 1))
row_rest a m n less =
    let more : m - n ≡ suc (m - (n + 1)) = omega (arith, less) in
    let next : a + (n + 1) ≡ (a + n) + 1 = omega arith in
    rw (more, next) refl

pub row_none : (a m n : ℕ) → m ≤ n → range_with_len (a + n) (m - n) ≡ []
row_none a m n past = let none : m - n ≡ 0 = omega (arith, past) in rw none refl

-- the first of them passes the test, or not
pub apart : {X : Type 0} (q : X → Bool) (x : X) (xs : List X) → filter q (x ∷ xs) ≡ filter q (x ∷ []) ++ filter q xs
apart q x xs = by (q x) refl
  where
    by : (b : Bool) → q x ≡ b → filter q (x ∷ xs) ≡ filter q (x ∷ []) ++ filter q xs
    by true is = rw is refl
    by false is = rw is refl

-- the piece at place i, and the others after it
pub piece_at : {K X : Type 0} (q : X → Bool) (f : K → List X) (ks : List K) (i : ℕ) (k : K) → slice_get ks i ≡ Some k → filter q (flat_map f (drop i ks)) ≡ filter q (f k) ++ filter q (flat_map f (drop (i + 1) ks))
piece_at q f ks i k at =
    ap (λ xs. filter q (flat_map f xs)) (rest_at ks i k at) ∙ filter-append q (f k) (flat_map f (drop (i + 1) ks))

pub piece_or : {K Y X : Type 0} (q : X → Bool) (g : Y → X) (f : K → List Y) (ks : List K) (i : ℕ) (d : K) → i < length ks → filter q (map g (flat_map f (drop i ks))) ≡ filter q (map g (f (get_or ks i d))) ++ filter q (map g (flat_map f (drop (i + 1) ks)))
piece_or q g f ks i d less =
    ap (λ xs. filter q (map g (flat_map f xs))) (rest_or ks i d less)
    ∙ (ap (filter q) (map-append g (f (get_or ks i d)) (flat_map f (drop (i + 1) ks)))
    ∙ filter-append q (map g (f (get_or ks i d))) (map g (flat_map f (drop (i + 1) ks))))
