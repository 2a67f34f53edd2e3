-- A plane that is written row by row.
use Rattle.std.proofs.Common.{◌≡◌, ℕ, ◌+◌, ◌-◌, ◌*◌, ◌/◌, ◌%◌, ◌<◌, ◌≤◌, List, ◌++◌, length, take, drop, get_or, ap, ◌∙◌, arith, inl, inr}
use Rattle.std.proofs.lemmas.Bool.{cases_lt}
use Rattle.std.proofs.lemmas.List.{places}
use Rattle.std.proofs.lemmas.List.FromFn.{fill_by_all}
use Rattle.cam_types.specs.Picture.{plane}

-- one more row is written, and all of it has the values of f
pub rows-more : (f : ℕ → ℕ) (xs row : List ℕ) (at width : ℕ) → at + width ≤ length xs → length row ≡ width → ((k : ℕ) → k < at → get_or xs k 0 ≡ f k) → ((x : ℕ) → x < width → get_or row x 0 ≡ f (at + x)) → (k : ℕ) → k < at + width → get_or (take at xs ++ (row ++ drop width (drop at xs))) k 0 ≡ f k
rows-more f xs row at width fits len before here k below =
    elim (cases_lt k at) [
      | inl less ↦ (let e : get_or (take at xs ++ (row ++ drop width (drop at xs))) k 0 ≡ get_or xs k 0 = grind (arith, places) in e ∙ before k less)
      | inr more ↦ (let e : get_or (take at xs ++ (row ++ drop width (drop at xs))) k 0 ≡ get_or row (k - at) 0 = grind (arith, places) in
          let same : at + (k - at) ≡ k = omega arith in
          e ∙ (here (k - at) (omega arith) ∙ ap f same))
    ]

-- a list that has the values of a plane at each place is the plane
pub plane-all : (value : ℕ → ℕ → ℕ) (width height n : ℕ) (xs : List ℕ) → n ≡ width * height → length xs ≡ n → ((k : ℕ) → k < n → get_or xs k 0 ≡ value (k % width) (k / width)) → xs ≡ plane value width height
unfolding plane
plane-all value width height n xs size len each =
    fill_by_all (λ i. value (i % width) (i / width)) xs (width * height) 0 (len ∙ size) (λ k below. each k (omega arith))
