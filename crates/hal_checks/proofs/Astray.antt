-- Whether a buffer stands in a list, whichever way it is turned.
use Rattle.std.proofs.Common.{◌≡◌, Bool, List, reverse}
use Rattle.std.specs.List.{list_any}
use Rattle.basic_lemmas.proofs.Lists.{any-reversed}

pub any_turned : {X : Type 0} (p : X → Bool) (xs : List X) → list_any p (reverse xs) ≡ list_any p xs
any_turned p xs = any-reversed p xs
