-- Lists in which one place is written.
use Rattle.std.proofs.Common.{◌≡◌, ℕ, zero, suc, List, [], ◌∷◌, Some, refl, sym, ◌∙◌, ap, map}
use Rattle.std.specs.Prelude.{slice_get, slice_set}

module _ {X : Type 0} where
  -- the place that was written
  pub get-here : (xs : List X) (k : ℕ) (x y : X) → slice_get xs k ≡ Some x → slice_get (slice_set xs k y) k ≡ Some y
  get-here [] k x y h = absurd (cc)
  get-here (z ∷ xs) zero x y h = refl
  get-here (z ∷ xs) (suc k) x y h = get-here xs k x y h

  -- the others
  pub get-other : (xs : List X) (k j : ℕ) (y : X) → (j ≡ k → ⊥) → slice_get (slice_set xs k y) j ≡ slice_get xs j
  get-other [] k j y other = refl
  get-other (z ∷ xs) zero zero y other = absurd (other refl)
  get-other (z ∷ xs) zero (suc j) y other = refl
  get-other (z ∷ xs) (suc k) zero y other = refl
  get-other (z ∷ xs) (suc k) (suc j) y other = get-other xs k j y (λ same. other (ap suc same))

  pub set-same : (xs : List X) (k : ℕ) (x : X) → slice_get xs k ≡ Some x → slice_set xs k x ≡ xs
  set-same [] k x h = refl
  set-same (z ∷ xs) zero x h = (let same : z ≡ x = cc in ap (λ (w : X). w ∷ xs) (sym same))
  set-same (z ∷ xs) (suc k) x h = ap (λ (w : List X). z ∷ w) (set-same xs k x h)

  -- what is seen of a list in which the new value looks like the old
  pub map-set-same : {Y : Type 0} (f : X → Y) (xs : List X) (k : ℕ) (x y : X) → slice_get xs k ≡ Some x → f y ≡ f x → map f (slice_set xs k y) ≡ map f xs
  map-set-same f [] k x y h same = refl
  map-set-same f (z ∷ xs) zero x y h same =
      let here : z ≡ x = cc in
      ap (λ w. w ∷ map f xs) (same ∙ ap f (sym here))
  map-set-same f (z ∷ xs) (suc k) x y h same = ap (λ w. f z ∷ w) (map-set-same f xs k x y h same)

  -- what is read of a mapped list is of an element
  pub get-mapped : {Y : Type 0} (f : X → Y) (xs : List X) (k : ℕ) (y : Y) → slice_get (map f xs) k ≡ Some y → (x : X) × (slice_get xs k ≡ Some x) × (f x ≡ y)
  get-mapped f [] k y h = absurd (cc)
  get-mapped f (x ∷ xs) zero y h = (let same : f x ≡ y = cc in (x, refl, same))
  get-mapped f (x ∷ xs) (suc k) y h = get-mapped f xs k y h

  pub mapped-get : {Y : Type 0} (f : X → Y) (xs : List X) (k : ℕ) (x : X) → slice_get xs k ≡ Some x → slice_get (map f xs) k ≡ Some (f x)
  mapped-get f [] k x h = absurd (cc)
  mapped-get f (z ∷ xs) zero x h = (let same : z ≡ x = cc in ap (λ (w : X). Some (f w)) same)
  mapped-get f (z ∷ xs) (suc k) x h = mapped-get f xs k x h
