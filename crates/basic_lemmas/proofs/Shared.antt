-- Lemmas that several crates need, on tests, numbers and lists.
use Rattle.std.proofs.Common.{◌≡◌, ℕ, ◌+◌, Bool, true, false, ◌&&◌, ◌||◌, List, [], ◌∷◌, Some, arith, inl, inr, nat_lt, refl, find}
use Rattle.std.specs.List.{list_any}
use Rattle.std.proofs.lemmas.Bool.{cases_Bool}
use Rattle.std.proofs.lemmas.Bool.Decides.{nat_tests}
use Rattle.std.proofs.Math.Bool.{and_comm}
use Rattle.basic_lemmas.proofs.Lists.{any-behind}
use Rattle.basic_lemmas.proofs.Tests.{and-true, or-true}

-- one more at the end of a list is one more at its front
pub and-turned : (a b : Bool) → (a && (b && true)) ≡ (b && a)
and-turned a b = rw (and-true b) (and_comm a b)

pub or-turned : (a b : Bool) → (a || (b || false)) ≡ (b || a)
or-turned true b = rw (or-true b) refl
or-turned false b = refl

-- the last of those that are counted is below their number
pub lt-next : (g n m : ℕ) → g ≡ n → m ≡ 1 + n → nat_lt g m ≡ true
lt-next g n m number next = grind (arith, nat_tests, number, next)

-- what is found is one of all, of whatever else it passes
pub found-also : {X : Type 0} (p q : X → Bool) (xs : List X) (x : X) → find p xs ≡ Some x → q x ≡ true → list_any q xs ≡ true
found-also p q [] x h k = absurd (cc)
found-also p q (y ∷ xs) x h k =
    elim (cases_Bool (p y)) [
      | inl here ↦ (let h' = rw here at h in let same : y ≡ x = cc in rw (same, k) refl)
      | inr other ↦ (let h' = rw other at h in any-behind q y xs (found-also p q xs x h' k))
    ]
