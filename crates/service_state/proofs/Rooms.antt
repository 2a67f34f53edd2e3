-- The streams that an item asks for, one by one.
use Rattle.std.proofs.Common.{◌≡◌, ℕ, Bool, true, false, ◌&&◌, ◌||◌, not, List, [], ◌∷◌, refl, filter}
use Rattle.std.specs.List.{list_all}

one-more : (q p : ℕ → Bool) (n : ℕ) (ns : List ℕ) → list_all p (filter q (n ∷ ns)) ≡ ((not (q n) || p n) && list_all p (filter q ns))
one-more q p n ns = by (q n) refl
  where
    by : (b : Bool) → q n ≡ b → list_all p (filter q (n ∷ ns)) ≡ ((not (q n) || p n) && list_all p (filter q ns))
    by true is = rw is refl
    by false is = rw is refl

pub rooms_of : (q p : ℕ → Bool) → list_all p (filter q (0 ∷ (1 ∷ (2 ∷ (3 ∷ []))))) ≡ ((not (q 0) || p 0) && ((not (q 1) || p 1) && ((not (q 2) || p 2) && (not (q 3) || p 3))))
rooms_of q p = rw (one-more q p 0 (1 ∷ (2 ∷ (3 ∷ []))), one-more q p 1 (2 ∷ (3 ∷ [])), one-more q p 2 (3 ∷ []), one-more q p 3 []) (last (not (q 3) || p 3))
  where
    last : (b : Bool) → ((not (q 0) || p 0) && ((not (q 1) || p 1) && ((not (q 2) || p 2) && (b && true)))) ≡ ((not (q 0) || p 0) && ((not (q 1) || p 1) && ((not (q 2) || p 2) && b)))
    last true = refl
    last false = refl
