use Rattle.std.proofs.Common.{◌≡◌, ℕ, zero, suc, ◌+◌, ◌<◌, List, [], ◌∷◌, ◌++◌, length, map, take, drop, slice_set, get_or, refl, arith, ap}

-- General lemmas on lists: they are of no row.

-- the element at place i changed, where those before it are
set-mapped-suc : {X : Type 0} (f : X → X) (xs : List X) (i : ℕ) (d y : X) → i < length xs → y ≡ f (get_or xs i d) → slice_set (map f (take i xs) ++ drop i xs) i y ≡ map f (take (suc i) xs) ++ drop (suc i) xs
set-mapped-suc f [] i d y l e = absurd (omega arith)
set-mapped-suc f (x ∷ xs) zero d y l e = rw e refl
set-mapped-suc {X} f (x ∷ xs) (suc i) d y l e = ap (λ (z : List X). f x ∷ z) (set-mapped-suc f xs i d y (omega arith) e)

pub get_or-mapped : {X : Type 0} (f : X → X) (xs : List X) (i : ℕ) (d : X) → i < length xs → get_or (map f (take i xs) ++ drop i xs) i d ≡ get_or xs i d
get_or-mapped f [] i d l = absurd (omega arith)
get_or-mapped f (x ∷ xs) zero d l = refl
get_or-mapped f (x ∷ xs) (suc i) d l = get_or-mapped f xs i d (omega arith)

pub set-mapped : {X : Type 0} (f : X → X) (xs : List X) (i : ℕ) (d y : X) → i < length xs → y ≡ f (get_or xs i d) → slice_set (map f (take i xs) ++ drop i xs) i y ≡ map f (take (i + 1) xs) ++ drop (i + 1) xs
set-mapped f xs i d y l e = let s : i + 1 ≡ suc i = omega arith in rw s (set-mapped-suc f xs i d y l e)

-- what a list of the same length leaves of the one that it is written over
pub written-back : {X : Type 0} (old new : List X) → length new ≡ length old → take (length old) (new ++ drop (length new) old) ≡ new
written-back [] [] e = refl
written-back [] (x ∷ new) e = absurd (omega (arith, e))
written-back (o ∷ old) [] e = absurd (omega (arith, e))
written-back {X} (o ∷ old) (x ∷ new) e = ap (λ (z : List X). x ∷ z) (written-back old new (omega (arith, e)))
