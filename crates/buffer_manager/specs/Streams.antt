use Rattle.std.specs.Prelude.{◌≡◌, ℕ, Bool, true, false, List, Option, Some, None}
use Rattle.std.specs.List.{list_all}
use Rattle.buffer_pool.specs.Home.{is_home, is_of, with_parked}
use Rattle.buffer_pool.specs.Parked.{has_made_waiter, number}
use Rattle.buffer_pool.specs.declared.parked.Parked.{Parked}
use Rattle.buffer_manager.specs.declared.stream.Stream.{Stream}

-- A stream with its pool (our own choice).

-- the pool holds these
abbrev pub with_home : List Parked → Stream → Stream
with_home home s = record s { pool = record s.pool { home = home } }

-- one more is at home
abbrev pub with_given : Parked → Stream → Stream
with_given parked s = with_home (with_parked parked s.pool.home) s

-- the buffer is one of the stream's, and isn't at home
abbrev pub MayGive : Parked → Option Stream → Type 0
MayGive parked (Some s) = (is_of s.pool (number parked) ≡ true) × (is_home (number parked) s.pool.home ≡ false)
MayGive parked None = ⊥

-- the fences of the buffers at home are of so many that were made
abbrev pub waits_for_made : ℕ → Stream → Bool
waits_for_made made s = list_all (has_made_waiter made) s.pool.home
