use Rattle.std.specs.Prelude.{◌≡◌, ℕ, ◌+◌, ◌==◌, ◌≤◌, ◌<◌, ◌&&◌, Bool, true, false, List, [], ◌∷◌, nat_le, nat_lt, if◌then◌else◌}
use Rattle.std.specs.List.{list_any}
use Rattle.cam_types.specs.declared.stream.StreamSpec.{StreamSpec}
use Rattle.buffer_pool.specs.declared.parked.Parked.{Parked}
use Rattle.buffer_pool.specs.Parked.{number}

-- The buffers of a stream that no one uses: a buffer is with one of the pool, the device and the client at a time
-- (camera3.h, S2, step 10: process_capture_result gives the ownership of a buffer back). That the buffer with the least
-- number goes first is our own choice.

-- the pool of a stream's buffers, which are numbered from `first` on, and those at home, ascending by their numbers
pub record Buffers : Type 0 where
  pub spec : StreamSpec
  pub first : ℕ
  pub count : ℕ
  pub home : List Parked

-- n is the number of one of the pool's buffers
abbrev pub is_of : Buffers → ℕ → Bool
is_of pool n = nat_le pool.first n && nat_lt n (pool.first + pool.count)

-- buffer n is among these
abbrev pub is_home : ℕ → List Parked → Bool
is_home n home = list_any (λ p. number p == n) home

-- one more is at home: before those with greater numbers
abbrev pub with_parked : Parked → List Parked → List Parked
with_parked p [] = p ∷ []
with_parked p (q ∷ home) = if nat_lt (number q) (number p) then q ∷ with_parked p home else p ∷ (q ∷ home)

-- the numbers rise, from `low` on and below `end`
abbrev pub rises : ℕ → ℕ → List Parked → Bool
rises low end [] = true
rises low end (p ∷ home) = nat_le low (number p) && (nat_lt (number p) end && rises (number p + 1) end home)

-- the buffers at home are the pool's own, each one time, in order
abbrev pub in_order : Buffers → Bool
in_order pool = rises pool.first (pool.first + pool.count) pool.home

-- all the pool's buffers are at home
abbrev pub AllHome : Buffers → Type 0
AllHome pool = (n : ℕ) → is_of pool n ≡ true → is_home n pool.home ≡ true
