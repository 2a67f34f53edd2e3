use Rattle.std.specs.Prelude.{ℕ, ◌+◌, ◌<◌, ◌≤◌, ◌%◌, true, false, List, [], ◌∷◌, Option, Some, None, IfSome, length, slice_get}
use Rattle.std.specs.Option.{option_map, option_or}
use Rattle.cam_types.specs.declared.item.Item.{Item}
use Rattle.cam_types.specs.declared.number.RequestId.{RequestId}
use Rattle.cam_types.specs.declared.request.Queued.{Queued}
use Rattle.cam_types.specs.declared.request.WaitingItem.{WaitingItem}
use Rattle.cam_types.specs.Requests.{Repeating}
use Rattle.cam_types.specs.Limits.{queue_limit}

-- What is to be captured next: each item of a once or a burst comes one time, in the order of the calls, and the list
-- of a repeat fills the time in which nothing waits (camera3.h, S2: the framework sends a steady stream of requests;
-- the queue and the list are our own choice).

-- what a queue holds: the items that wait, the list that repeats, and the place in it of the item whose turn it is
pub record Requests : Type 0 where
  pub queued : List WaitingItem
  pub repeating : Option Repeating
  pub place : ℕ

abbrev pub no_requests : Requests
no_requests = record { queued = []; repeating = None; place = 0 }

-- the items of a request, from place i on
abbrev pub named : RequestId → ℕ → List Item → List WaitingItem
named r i [] = []
named r i (item ∷ items) = record { request = r; index = i; item = item } ∷ named r (i + 1) items

abbrev pub as_queued : WaitingItem → Queued
as_queued w = record { request = w.request; index = w.index; item = w.item; repeating = false }

-- the first that waits
abbrev pub first_queued : List WaitingItem → Option Queued
first_queued waiting = option_map as_queued (slice_get waiting 0)

abbrev pub as_repeated : RequestId → ℕ → Item → Queued
as_repeated r i item = record { request = r; index = i; item = item; repeating = true }

-- the item at place i of the list that repeats
abbrev pub repeated_at : ℕ → Option Repeating → Option Queued
repeated_at i None = None
repeated_at i (Some r) = option_map (as_repeated r.request i) (slice_get r.items i)

-- the next item: the first that waits, or where none does the one at the place of the list that repeats
abbrev pub next_item : Requests → Option Queued
next_item q = option_or (first_queued q.queued) (repeated_at q.place q.repeating)

-- the place moves on by one, from the last to 0
abbrev pub place_after : Option Repeating → ℕ → ℕ
place_after None place = place
place_after (Some r) place = (place + 1) % length r.items

-- what stays once the next item is taken: the others that wait, or where none does the list with the place moved on
abbrev pub after_next : List WaitingItem → Option Repeating → ℕ → Requests
after_next [] repeating place = record { queued = []; repeating = repeating; place = place_after repeating place }
after_next (_ ∷ others) repeating place = record { queued = others; repeating = repeating; place = place }

-- at most 256 items wait, and the list that repeats has 1 to 8, of which one is at the place
pub record IsWithin (q : Requests) : Type 0 where
  pub queued : length q.queued ≤ queue_limit
  pub placed : IfSome q.repeating (λ r. (q.place < length r.items) × (length r.items ≤ 8))
