use Rattle.std.specs.Prelude.{ℕ, ◌+◌, ◌^◌, ◌<◌, Bool, true, ◌&&◌, List, Option, Some, None, length, nat_le, nat_lt, IsTrue}
use Rattle.std.specs.List.{list_all}
use Rattle.cam_types.specs.Script.{is_valid}
use Rattle.cam_types.specs.declared.number.DeviceFenceNo.{DeviceFenceNo}
use Rattle.cam_types.specs.declared.request.WaitingItem.{WaitingItem}
use Rattle.cam_types.specs.declared.script.Script.{Script}
use Rattle.trace_model.specs.declared.entry.Entry.{Entry}
use Rattle.trace_model.specs.Legal.{IsLegal}
use Rattle.trace_model.specs.Printable.{fence_fits, is_small, made_fits, sent_fits}
use Rattle.trace_laws.specs.Typed.{is_typed}
use Rattle.state_facts.specs.Turns.{Turn}
use Rattle.state_facts.specs.Row.{Row, Target}
use Rattle.state_facts.specs.States.{State, state}

-- The numbers of the state fit their types: 32 bits, and 64 for times (our own choice of types).

-- an item that waits has a request and a place that fit
abbrev pub waiting_fits : WaitingItem → Bool
waiting_fits w = is_small w.request.0 && is_small w.index

-- the list that repeats has a request and a place that fit
abbrev pub turn_fits : Option Turn → Bool
turn_fits (Some q) = is_small q.request.0 && is_small q.place
turn_fits None = true

-- the number of a device fence, if there is one, fits
abbrev pub device_fence_fits : Option DeviceFenceNo → Bool
device_fence_fits (Some d) = is_small d.0
device_fence_fits None = true

-- the time of a shutter, if there is one, fits
abbrev pub time_fits : Option ℕ → Bool
time_fits (Some time) = nat_lt time (2 ^ 64)
time_fits None = true

-- a buffer of a row has a target and device fences that fit
abbrev pub target_fits : Target → Bool
target_fits t = sent_fits t.sent && list_all is_small t.given

-- a row has a frame, a time and buffers that fit, and at most three parts
abbrev pub row_fits : Row → Bool
row_fits r =
    is_small r.number && (time_fits r.shutter && (nat_le r.parts 3 && list_all target_fits r.targets))

pub record NumbersFit (s : State) : Type 0 where
  pub frames : s.queue.numbers < 2 ^ 32
  pub requests : s.queue.requests < 2 ^ 32
  pub waiting : IsTrue (list_all waiting_fits s.queue.waiting)
  pub turn : IsTrue (turn_fits s.queue.turn)
  pub buffers : s.buffers.first + length s.buffers.places < 2 ^ 32
  pub made : IsTrue (list_all made_fits s.buffers.made)
  pub fences : length s.buffers.signalled < 2 ^ 32
  pub device_fences : length s.buffers.late < 2 ^ 32
  pub at_home : IsTrue (list_all fence_fits s.buffers.fences)
  pub held : IsTrue (list_all device_fence_fits s.buffers.held)
  pub calls : s.client.calls < 2 ^ 32
  pub repeated : s.client.repeated < 2 ^ 32
  pub done : s.client.done < 2 ^ 32
  pub rows : IsTrue (list_all row_fits s.rows)
  pub clock : s.clock < 2 ^ 64

-- in a legal run of a valid script each number of the state fits its type
abbrev pub FitsTypes : Script → List Entry → Type 0
FitsTypes script past =
    IsTrue (is_typed script) → IsTrue (is_valid script) → IsLegal script past → NumbersFit (state script past)
