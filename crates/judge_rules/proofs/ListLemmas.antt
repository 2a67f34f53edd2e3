-- How many items of the queue are left, piece by piece.
use Rattle.std.proofs.Common.{◌≡◌, ℕ, ◌+◌, ◌<◌, Bool, true, false, List, [], ◌∷◌, ◌++◌, ◌∙◌, ap, arith, suc, zero, length, filter, drop, cond, not, inl, inr, length-append}
use Rattle.std.specs.List.{list_any}
use Rattle.std.proofs.lemmas.Bool.{cases_Bool}
use Rattle.std.proofs.lemmas.List.Elements.{filter-append}
use Rattle.cam_types.specs.declared.item.Item.{Item}
use Rattle.cam_types.specs.declared.number.RequestId.{RequestId}
use Rattle.trace_model.specs.declared.entry.Entry.{Entry}
use Rattle.trace_model.specs.Entry.{takes}
use Rattle.trace_model.specs.Queue.{named, is_taken}
use Rattle.cam_types.specs.declared.request.WaitingItem.{WaitingItem}

pub kept_more : (p : WaitingItem → Bool) (xs ys : List WaitingItem) → length (filter p (xs ++ ys)) ≡ length (filter p xs) + length (filter p ys)
kept_more p xs ys = ap length (filter-append p xs ys) ∙ length-append (filter p xs) (filter p ys)

-- an item that is left counts one, another none
left_next : (past : List Entry) (r : RequestId) (k i : ℕ) (xs : List Item) → i < length xs → length (filter (λ w. not (is_taken past w)) (named r k (drop i xs))) ≡ cond (list_any (takes r.0 k) past) 0 1 + length (filter (λ w. not (is_taken past w)) (named r (k + 1) (drop (suc i) xs)))
left_next past r k i [] l = absurd (omega arith)
left_next past r k zero (x ∷ xs) l =
    elim (cases_Bool (list_any (takes r.0 k) past)) [
      | inl yes' ↦ rw yes' (omega arith)
      | inr no' ↦ rw no' (omega arith)
    ]
left_next past r k (suc i) (x ∷ xs) l = left_next past r k i xs (omega arith)

pub left_counts : (past : List Entry) (r : RequestId) (k i j : ℕ) (xs : List Item) → j ≡ suc i → i < length xs → list_any (takes r.0 k) past ≡ false → length (filter (λ w. not (is_taken past w)) (named r k (drop i xs))) ≡ 1 + length (filter (λ w. not (is_taken past w)) (named r (k + 1) (drop j xs)))
left_counts past r k i j xs e l no' =
    let next = left_next past r k i xs l in
    rw e (rw no' at next)

pub taken_counts : (past : List Entry) (r : RequestId) (k i j : ℕ) (xs : List Item) → j ≡ suc i → i < length xs → list_any (takes r.0 k) past ≡ true → length (filter (λ w. not (is_taken past w)) (named r k (drop i xs))) ≡ length (filter (λ w. not (is_taken past w)) (named r (k + 1) (drop j xs)))
taken_counts past r k i j xs e l yes' =
    let next = left_next past r k i xs l in
    rw e (omega (arith, rw yes' at next))
