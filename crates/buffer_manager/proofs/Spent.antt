-- Values that are spent one by one, the last first, while no fence changes: those that are left wait for fences that
-- were made.
use Rattle.std.proofs.Common.{◌≡◌, ℕ, Bool, true, List, [], ◌∷◌, ◌++◌, refl, ◌∙◌}
use Rattle.std.specs.List.{list_all}
use Rattle.std.proofs.lemmas.Bool.{and_parts}
use Rattle.buffer_pool.specs.Fences.{FencesMade, made}

-- what is left, with the fences at first and now
pub record AreLeft {X : Type 0} (is_made : ℕ → X → Bool) (initial fences : FencesMade) (left : List X) : Type 0 where
  pub same : fences ≡ initial
  pub all_made : list_all (is_made (made initial)) left ≡ true

-- the last of values that pass a test, and the others
pub all-last : {X : Type 0} (p : X → Bool) (xs ys : List X) (x : X) → xs ≡ ys ++ x ∷ [] → list_all p xs ≡ true → (p x ≡ true) × (list_all p ys ≡ true)
all-last {X} p xs ys x is h = go ys (rw is at h)
  where
    go : (zs : List X) → list_all p (zs ++ x ∷ []) ≡ true → (p x ≡ true) × (list_all p zs ≡ true)
    go [] k = ((and_parts (p x) true k).0, refl)
    go (z ∷ zs) k =
        let parts = and_parts (p z) (list_all p (zs ++ x ∷ [])) k in
        let rest = go zs parts.1 in
        (rest.0, rw parts.0 rest.1)

-- the last is spent
pub last-spent : {X : Type 0} (is_made : ℕ → X → Bool) (initial fences : FencesMade) (left rest : List X) (x : X) → AreLeft is_made initial fences left → left ≡ rest ++ x ∷ [] → (is_made (made fences) x ≡ true) × ((after : FencesMade) → after ≡ fences → AreLeft is_made initial after rest)
last-spent is_made initial fences left rest x are is =
    let last = all-last (is_made (made initial)) left rest x is are.all_made in
    (rw are.same last.0, λ after same. record { same = same ∙ are.same; all_made = last.1 })
