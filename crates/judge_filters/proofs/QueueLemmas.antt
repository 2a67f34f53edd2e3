-- The first item that is left, piece by piece.
use Rattle.std.proofs.Common.{◌≡◌, ℕ, ◌+◌, ◌<◌, Bool, true, false, List, [], ◌∷◌, ◌++◌, Option, Some, None, refl, ap, arith, suc, zero, length, filter, drop, inl, inr}
use Rattle.std.proofs.lemmas.Grind.{common_steps}
use Rattle.std.proofs.lemmas.Bool.{cases_Bool}
use Rattle.cam_types.specs.declared.item.Item.{Item}
use Rattle.cam_types.specs.declared.number.RequestId.{RequestId}
use Rattle.trace_model.specs.Queue.{first_in, named}
use Rattle.cam_types.specs.declared.request.WaitingItem.{WaitingItem}
use Rattle.judge_filters.specs.Past.{or_first}

pub first_more : (p : WaitingItem → Bool) (xs ys : List WaitingItem) → first_in (filter p (xs ++ ys)) ≡ or_first (first_in (filter p xs)) (first_in (filter p ys))
first_more p [] ys = refl
first_more p (x ∷ xs) ys =
    elim (cases_Bool (p x)) [
      | inl yes' ↦ rw yes' refl
      | inr no' ↦ rw no' (first_more p xs ys)
    ]

-- an item of a request that isn't left is passed over
left_next : (p : WaitingItem → Bool) (r : RequestId) (k i : ℕ) (xs : List Item) → ((d : Item) → p (record { request = r; index = k; item = d }) ≡ false) → i < length xs → first_in (filter p (named r k (drop i xs))) ≡ first_in (filter p (named r (k + 1) (drop (suc i) xs)))
left_next p r k i [] no' l = absurd (omega arith)
left_next p r k zero (x ∷ xs) no' l = rw (no' x) refl
left_next p r k (suc i) (x ∷ xs) no' l = left_next p r k i xs no' (omega arith)

pub left_step : (p : WaitingItem → Bool) (r : RequestId) (k i j : ℕ) (xs : List Item) → j ≡ suc i → ((d : Item) → p (record { request = r; index = k; item = d }) ≡ false) → i < length xs → first_in (filter p (named r k (drop i xs))) ≡ first_in (filter p (named r (k + 1) (drop j xs)))
left_step p r k i j xs e no' l = rw e (left_next p r k i xs no' l)
