-- A list that is made step by step.
use Rattle.std.proofs.Common.{◌≡◌, ℕ, ◌+◌, ◌<◌, ◌≤◌, zero, suc, List, [], ◌∷◌, ◌++◌, None, Some, length, refl, ap, sym, arith, slice_get, take}
use Rattle.std.proofs.Math.Seq.{take-suc}
use Rattle.std.proofs.lemmas.Option.{get_or_from_slice_get, slice_get_within}

-- the first n + 1 of a list are the first n and the one at n
pub one_more : {X : Type 0} (xs ys : List X) (n : ℕ) (x : X) → ys ≡ take n xs → slice_get xs n ≡ Some x → ys ++ (x ∷ []) ≡ take (n + 1) xs
one_more xs ys n x front at =
    let next : n + 1 ≡ suc n = omega arith in
    let here = get_or_from_slice_get xs n x x at in
    let more : take (suc n) xs ≡ take n xs ++ (x ∷ []) = rw here at (take-suc xs n x (slice_get_within xs n x at)) in
    rw (next, front) (sym more)

-- the first n of a list of no more than n are all of it
pub all_taken : {X : Type 0} (xs : List X) (n : ℕ) → length xs ≤ n → take n xs ≡ xs
all_taken [] zero few = refl
all_taken [] (suc n) few = refl
all_taken (x ∷ xs) zero few = absurd (omega arith)
all_taken (x ∷ xs) (suc n) few = ap (λ ys. x ∷ ys) (all_taken xs n (omega arith))

-- a list of more than n has one at n
pub none_missing : {X : Type 0} (xs : List X) (n : ℕ) → n < length xs → slice_get xs n ≡ None → ⊥
none_missing [] n within none = omega arith
none_missing (x ∷ xs) zero within none = cc none
none_missing (x ∷ xs) (suc n) within none = none_missing xs n (omega arith) none
