use Rattle.std.specs.Prelude.{ℕ, ◌==◌, Bool, false, ◌&&◌, not, List, Option, Some, None, nat_lt, find}
use Rattle.cam_types.specs.declared.script.Script.{Script}
use Rattle.trace_model.specs.declared.entry.Entry.{Entry}
use Rattle.trace_model.specs.Fence.{early_fence_of, is_signalled, is_there}
use Rattle.trace_model.specs.Frames.{frames}
use Rattle.trace_model.specs.Numbers.{next_number, next_fence}
use Rattle.trace_model.specs.Place.{Client, place, is_at}
use Rattle.trace_model.specs.Queue.{queued, first_in}
use Rattle.cam_types.specs.declared.request.WaitingItem.{WaitingItem}
use Rattle.trace_model.specs.Shutter.{next_time, may_expose}
use Rattle.trace_model.specs.Stopping.{is_stopping}

-- Whether an entry with these numbers is the one that is due, as a test of its numbers. Our own choice: each test is
-- proved to say what `trace_model` says of the entry.

abbrev pub is_named : List Entry → Option WaitingItem → ℕ → ℕ → ℕ → Bool
is_named past (Some w) n r i = (next_number past == n) && ((w.request.0 == r) && (w.index == i))
is_named past None n r i = false

-- the item is the first of the queue, and is dropped under the next number
abbrev pub drops : Script → List Entry → ℕ → ℕ → ℕ → Bool
drops script past n r i = is_stopping past && is_named past (first_in (queued script past)) n r i

abbrev pub is_at_time : Script → List Entry → Option ℕ → ℕ → ℕ → Bool
is_at_time script past (Some m) n time = (m == n) && (next_time script past == time)
is_at_time script past None n time = false

-- the frame is the next for the sensor, at the next time
abbrev pub exposes : Script → List Entry → ℕ → ℕ → Bool
exposes script past n time = is_at_time script past (find (may_expose script past) (frames past)) n time

-- the client has the buffer, whose picture is there, and the fence is the next
abbrev pub releases : List Entry → ℕ → ℕ → Bool
releases past b f = (is_at (place b past) Client && is_there (early_fence_of b past) past) && (next_fence past == f)

-- the fence was released and isn't signalled
abbrev pub signals_next : List Entry → ℕ → Bool
signals_next past f = nat_lt f (next_fence past) && not (is_signalled f past)
