use Rattle.std.specs.Prelude.{ℕ, Option, Some, None}
use Rattle.cam_types.specs.Requests.{Repeating}
use Rattle.client_calls.specs.Requests.{Requests}
use Rattle.state_facts.specs.Turns.{Turn, Turns}

-- What a queue holds, as the state of a trace: the queue itself knows no numbers of frames and requests.

-- the list that repeats, with the place of the item whose turn it is
abbrev pub turn_in : Option Repeating → ℕ → Option Turn
turn_in (Some r) place = Some (record { request = r.request; items = r.items; place = place })
turn_in None place = None

-- the state of a queue, with the numbers of the next frame and of the next request
abbrev pub turns_of : Requests → ℕ → ℕ → Turns
turns_of q numbers requests =
    record { waiting = q.queued; turn = turn_in q.repeating q.place; numbers = numbers; requests = requests }
