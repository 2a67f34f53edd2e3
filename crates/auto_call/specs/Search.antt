use Rattle.std.specs.Prelude.{ℕ, zero, suc, ◌+◌, ◌-◌, ◌*◌, ◌/◌, ◌^◌, ◌==◌, ◌≤◌, Bool, min, nat_le, nat_lt, if◌then◌else◌, List, map}
use Rattle.std.specs.List.{range_with_len}
use Rattle.auto_call.specs.declared.state.AeState.{AeState}
use Rattle.auto_call.specs.declared.state.AeState.TheVariants.{Searching, Locked, AtLimit}

-- The search for the least step, by halves. (our own choice)

-- the steps that the least one may be: from low to high, of which 1,001 stands for none
pub record Search : Type 0 where
  pub low : ℕ
  pub high : ℕ

abbrev pub start : Search
start = record { low = 1; high = 1001 }

-- the step of the next frame: the one in the middle, or what was found, 1,000 at most
abbrev pub step_of : Search → ℕ
step_of s = if nat_lt s.low s.high then (s.low + s.high) / 2 else min s.low 1000

-- what is left of a search after its next frame, by whether that was bright enough
abbrev pub narrowed : Bool → Search → Search
narrowed enough s =
    if nat_lt s.low s.high then (if enough then record s { high = step_of s } else record s { low = step_of s + 1 })
    else s

-- the search after so many frames, by the least step alone: the frames from it on are bright enough
unfoldable pub searched : ℕ → ℕ → Search
searched least_step zero = start
searched least_step (suc frames) =
    narrowed (nat_le least_step (step_of (searched least_step frames))) (searched least_step frames)

-- the steps of a scene's frames, by the least step alone
abbrev pub path : ℕ → ℕ → List ℕ
path least_step frames = map (λ i. step_of (searched least_step i)) (range_with_len 0 frames)

-- the steps that are left lie from 1 to 1,001
pub record IsWithin (s : Search) : Type 0 where
  pub least : 1 ≤ s.low
  pub ordered : s.low ≤ s.high
  pub most : s.high ≤ 1001

-- the least step is among those that are left
pub record Spans (s : Search) (least_step : ℕ) : Type 0 where
  pub from : s.low ≤ least_step
  pub to : least_step ≤ s.high

-- what is left is halved with each frame
abbrev pub IsHalved : Search → ℕ → Type 0
IsHalved s frames = (s.high - s.low) * 2 ^ frames ≤ 1000

-- where one step alone is left: it is found, or no exposure is bright enough
abbrev pub decided : ℕ → AeState
decided step = if step == 1001 then AtLimit else Locked step

-- how far a search is
abbrev pub state_of : Search → AeState
state_of s = if nat_lt s.low s.high then Searching s.low s.high else decided s.low
