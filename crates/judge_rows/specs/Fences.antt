use Rattle.std.specs.Prelude.{ℕ, ◌==◌, Bool, not, List, map, nat_lt}
use Rattle.std.specs.List.{list_all, list_any, range_with_len}

-- Fences that are given in order (our own choice: those that aren't signalled are kept, and how many were given).

-- the fence isn't among those that wait
abbrev pub is_past : List ℕ → ℕ → Bool
is_past waiting f = not (list_any (λ n. n == f) waiting)

-- for each fence that was given whether it is signalled
abbrev pub marks : List ℕ → ℕ → List Bool
marks waiting count = map (is_past waiting) (range_with_len 0 count)

-- each fence that waits was given
abbrev pub are_given : ℕ → List ℕ → Bool
are_given count waiting = list_all (λ n. nat_lt n count) waiting
