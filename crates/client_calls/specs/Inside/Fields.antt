use Rattle.std.specs.Prelude.{◌≡◌, ℕ, List, Option}
use Rattle.std.specs.Option.{option_map}
use Rattle.circular_buffer.specs.Buffer.{Buffer}
use Rattle.cam_types.specs.declared.item.Item.{Item}
use Rattle.cam_types.specs.declared.number.RequestId.{RequestId}
use Rattle.cam_types.specs.declared.request.WaitingItem.{WaitingItem}
use Rattle.cam_types.specs.Requests.{Repeating}
use Rattle.client_calls.specs.Requests.{IsWithin, Requests}
use Rattle.cam_types.specs.Limits.{queue_limit}

abbrev pub list_of : List Item → RequestId → Repeating
list_of items r = record { request = r; items = items }

-- what the fields of a queue hold
abbrev pub held : Buffer WaitingItem → Buffer Item → Option RequestId → ℕ → Requests
held waiting cycle repeating place =
    record { queued = waiting.items; repeating = option_map (list_of cycle.items) repeating; place = place }

-- the fields have the room that no call adds to, and hold what a queue may
pub record IsKept (waiting : Buffer WaitingItem) (cycle : Buffer Item) (repeating : Option RequestId)
    (place : ℕ) : Type 0 where
  pub queue_room : waiting.capacity ≡ queue_limit
  pub cycle_room : cycle.capacity ≡ 8
  pub within : IsWithin (held waiting cycle repeating place)
