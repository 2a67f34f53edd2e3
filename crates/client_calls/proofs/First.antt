use Rattle.std.proofs.Common.{◌≡◌, List, [], ◌∷◌, None, slice_get, refl}

-- nothing waits where there is no first
pub none-first : {X : Type 0} (xs : List X) → slice_get xs 0 ≡ None → xs ≡ []
none-first [] h = refl
none-first (x ∷ xs) h = absurd (cc)
