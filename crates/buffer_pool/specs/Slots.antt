use Rattle.std.specs.Prelude.{◌≡◌, ℕ, ◌+◌, ◌==◌, ◌≤◌, ◌^◌, ◌&&◌, Bool, true, List, [], ◌∷◌, Option, Some, None, nat_lt, replicate}
use Rattle.buffer_pool.specs.declared.parked.Parked.{Parked}
use Rattle.buffer_pool.specs.Parked.{number}

-- the buffers that stand in the places, in order
abbrev pub homes : List (Option Parked) → List Parked
homes [] = []
homes (Some p ∷ slots) = p ∷ homes slots
homes (None ∷ slots) = homes slots

abbrev pub no_parked : Option Parked
no_parked = None

abbrev pub empty_slots : List (Option Parked)
empty_slots = replicate 18 no_parked

-- the places are those of the numbers from n on, and each buffer stands at its own, below `end`
abbrev pub stand_in : ℕ → ℕ → List (Option Parked) → Bool
stand_in n end [] = true
stand_in n end (Some p ∷ slots) = (number p == n) && (nat_lt n end && stand_in (n + 1) end slots)
stand_in n end (None ∷ slots) = stand_in (n + 1) end slots

-- the places of a pool: so many buffers have a place, and each has a number
pub record AreHeld (slots : List (Option Parked)) (first count : ℕ) : Type 0 where
  pub placed : stand_in first (first + count) slots ≡ true
  pub few : count ≤ 18
  pub numbered : first + count ≤ 2 ^ 32
