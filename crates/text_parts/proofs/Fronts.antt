-- Words read one after the other.
use Rattle.std.proofs.Common.{List, ◌++◌, Option, None, Some}

-- what was read before, and what is still read
abbrev pub with_front : {A : Type 0} → List A → Option (List A) → Option (List A)
with_front front None = None
with_front front (Some xs) = Some (front ++ xs)
