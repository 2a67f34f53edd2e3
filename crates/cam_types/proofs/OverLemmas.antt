-- Lists of which a front is written over.
use Rattle.std.proofs.Common.{◌≡◌, ℕ, zero, suc, ◌≤◌, List, [], ◌∷◌, ◌++◌, length, take, drop, refl, ap, sym, ◌∙◌, arith}
use Rattle.std.proofs.lemmas.Grind.{common_steps}
use Rattle.cam_types.specs.declared.number.BufferId.{BufferId}
use Rattle.cam_types.specs.Over.{written_over}
use Rattle.cam_types.specs.Shown.{Shown}

-- what a Vec holds after its front was written over
abbrev pub refilled : ℕ → List ℕ → List ℕ → List ℕ
refilled len items new = let ws = take 0 items ++ (new ++ drop (length new) (drop 0 items)) in take len (ws ++ drop (length ws) items)

pub length-refilled : (len : ℕ) (items new : List ℕ) → length items ≡ len → length (refilled len items new) ≡ length items
length-refilled len items new h = grind (arith, common_steps)

take_of_take : (used : ℕ) (items : List ℕ) → take used (take used items) ≡ take used items
take_of_take zero items = refl
take_of_take (suc used) [] = refl
take_of_take (suc used) (x ∷ items) = ap (λ z. x ∷ z) (take_of_take used items)

-- what stands past the front doesn't matter
front-written : (used : ℕ) (items new : List ℕ) → used ≤ length items → take used (new ++ drop (length new) items) ≡ take used (new ++ drop (length new) (take used items))
front-written zero items new h = refl
front-written (suc used) [] new h = absurd (omega arith)
front-written (suc used) (x ∷ items) [] h = ap (λ z. x ∷ z) (sym (take_of_take used items))
front-written (suc used) (x ∷ items) (y ∷ new) h = ap (λ z. y ∷ z) (front-written used items new (omega arith))

take_of_longer : (used len : ℕ) (xs rest : List ℕ) → used ≤ len → used ≤ length xs → take used (take len (xs ++ rest)) ≡ take used xs
take_of_longer zero len xs rest h k = refl
take_of_longer (suc used) zero xs rest h k = absurd (omega arith)
take_of_longer (suc used) (suc len) [] rest h k = absurd (omega arith)
take_of_longer (suc used) (suc len) (x ∷ xs) rest h k = ap (λ z. x ∷ z) (take_of_longer used len xs rest (omega arith) (omega arith))

pub take-refilled : (used len : ℕ) (items new : List ℕ) → length items ≡ len → used ≤ length items → take used (refilled len items new) ≡ written_over (take used items) new
take-refilled used len items new h l =
    let long : used ≤ length (new ++ drop (length new) items) = grind (arith, common_steps) in
    let same : length (take used items) ≡ used = grind (arith, common_steps) in
    rw same (take_of_longer used len (new ++ drop (length new) items) _ (omega arith) long ∙ front-written used items new l)

pub shown-same : (id : BufferId) (bytes more : List ℕ) (block size : ℕ) → bytes ≡ more → block ≡ size → (let x : Shown = record { id = id; bytes = bytes; block = block } in x) ≡ record { id = id; bytes = more; block = size }
shown-same id bytes more block size b s = rw (b, s) refl
