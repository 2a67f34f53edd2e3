use Rattle.std.specs.Prelude.{ℕ, Bool, true, Option, Some, None, nat_lt}
use Rattle.buffer_pool.specs.declared.parked.Parked.{Parked}

-- A buffer that no one uses, with the fence that must be signalled before it is written (camera3.h,
-- camera3_stream_buffer, acquire_fence; the numbers of buffers and fences are our own choice).

-- the buffer's number
abbrev pub number : Parked → ℕ
number p = p.pixels.id.0

abbrev pub waits_below : ℕ → Option ℕ → Bool
waits_below made (Some fence) = nat_lt fence made
waits_below made None = true

-- where it has a waiter, its fence is one of so many that were made
abbrev pub has_made_waiter : ℕ → Parked → Bool
has_made_waiter made p = waits_below made p.waiter
