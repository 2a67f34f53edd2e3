use Rattle.std.proofs.Common.{◌≡◌, ℕ, ◌+◌, ◌-◌, ◌<◌, ◌≤◌, List, [], ◌∷◌, ◌++◌, length, take, get_or, arith, refl, append_assoc}
use Rattle.std.proofs.lemmas.Grind.{common_steps}
use Rattle.circular_buffer.specs.Buffer.{keep_last}
use Rattle.cam_types.specs.declared.item.Item.{Item}
use Rattle.cam_types.specs.declared.number.RequestId.{RequestId}
use Rattle.cam_types.specs.declared.request.WaitingItem.{WaitingItem}
use Rattle.client_calls.specs.Requests.{named}
use Rattle.trace_laws.proofs.FrameLemmas.{named-length}

-- one item more is named by the number of those before it
pub named-push : (r : RequestId) (i : ℕ) (items : List Item) (last : Item) → named r i (items ++ last ∷ []) ≡ named r i items ++ record { request = r; index = i + length items; item = last } ∷ []
named-push r i [] last = let e : i + 0 ≡ i = omega arith in grind arith
named-push r i (item ∷ items) last =
    let ih = named-push r (i + 1) items last in
    let e : i + 1 + length items ≡ i + length (item ∷ items) = grind (arith, common_steps) in
    grind (arith, common_steps)

-- where all that is pushed has room, the ring forgets nothing
pub keep_last-all : {X : Type 0} (n : ℕ) (xs : List X) → length xs ≤ n → keep_last n xs ≡ xs
keep_last-all n xs l = let e : length xs - n ≡ 0 = omega arith in grind (arith, common_steps)

-- the item at place i is appended to those before it
pub append-step : (xs : List WaitingItem) (r : RequestId) (items : List Item) (i n : ℕ) (d : Item) → i < length items → length xs + length items ≤ n → keep_last n ((xs ++ named r 0 (take i items)) ++ record { request = r; index = i; item = get_or items i d } ∷ []) ≡ xs ++ named r 0 (take (i + 1) items)
append-step xs r items i n d l fits =
    let more : take (i + 1) items ≡ take i items ++ get_or items i d ∷ [] = grind (arith, common_steps) in
    let count : length (take i items) ≡ i = grind (arith, common_steps) in
    let names = named-push r 0 (take i items) (get_or items i d) in
    let size = named-length r 0 (take i items) in
    let within : length ((xs ++ named r 0 (take i items)) ++ record { request = r; index = i; item = get_or items i d } ∷ []) ≤ n = grind (arith, common_steps) in
    let kept = keep_last-all n ((xs ++ named r 0 (take i items)) ++ record { request = r; index = i; item = get_or items i d } ∷ []) within in
    let at : 0 + length (take i items) ≡ i = omega arith in
    let names' = rw at at names in
    rw (kept, append_assoc, more, names') refl
