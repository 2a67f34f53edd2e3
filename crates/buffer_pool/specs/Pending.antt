use Rattle.std.specs.Prelude.{◌≡◌, ℕ, ◌==◌, ◌≤◌, ◌<◌, ◌^◌, ◌&&◌, Bool, true, List, [], ◌∷◌, not, filter, length, nat_lt}
use Rattle.std.specs.List.{list_all, list_any}

-- The fences that a client was given to signal, and hasn't signalled (camera3.h, camera3_stream_buffer: release_fence).
-- That they stand by number, in a room that is taken at once, is our own choice.

-- the numbers of the fences, and how many may stand at once
pub record Pending : Type 0 where
  pub numbers : List ℕ
  pub room : ℕ

abbrev pub no_pending : ℕ → Pending
no_pending room = record { numbers = []; room = room }

-- each number is less than those behind it
abbrev pub ascends : List ℕ → Bool
ascends [] = true
ascends (n ∷ numbers) = list_all (λ m. nat_lt n m) numbers && ascends numbers

-- each number is less than this one
abbrev pub are_below : ℕ → List ℕ → Bool
are_below number numbers = list_all (λ n. nat_lt n number) numbers

-- the number stands here
abbrev pub stands : ℕ → List ℕ → Bool
stands number numbers = list_any (λ n. n == number) numbers

-- the others
abbrev pub without : ℕ → List ℕ → List ℕ
without number numbers = filter (λ n. not (n == number)) numbers

-- what is kept: the numbers ascend, and there is memory for as many as may stand
pub record IsKept (numbers : List ℕ) (count capacity : ℕ) : Type 0 where
  pub order : ascends numbers ≡ true
  pub few : length numbers ≤ count
  pub room : count ≤ capacity
  pub fits : count < 2 ^ 32
