-- What holds of all holds of the first ones.
use Rattle.std.proofs.Common.{◌≡◌, ℕ, Bool, true, List, take}
use Rattle.std.specs.List.{list_all}
use Rattle.basic_lemmas.proofs.Lists.{all-taken}

pub all_taken : {X : Type 0} (p : X → Bool) (n : ℕ) (xs : List X) → list_all p xs ≡ true → list_all p (take n xs) ≡ true
all_taken p n xs h = all-taken p n xs h
