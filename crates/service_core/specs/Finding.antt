use Rattle.std.specs.Prelude.{◌≡◌, ℕ, ◌+◌, List, Some, Result, Ok, Err, length, slice_get}

-- A walk over a list that isn't made.

-- the value with the number, from 0 on, or by how much the number is past the last
abbrev pub Finds : {X : Type 0} → List X → ℕ → Result X ℕ → Type 0
Finds xs number (Ok x) = slice_get xs number ≡ Some x
Finds xs number (Err left) = number ≡ left + length xs
