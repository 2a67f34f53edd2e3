use Rattle.std.specs.Prelude.{ℕ, ◌==◌, Bool, false, ◌&&◌, ◌||◌, not, List, [], ◌∷◌, Option, Some, None, find, nat_lt, length, slice_get, if◌then◌else◌}
use Rattle.std.specs.List.{list_any, list_all}
use Rattle.cam_types.specs.Four.{four_list, four_of}
use Rattle.cam_types.specs.declared.four.Four.{Four}
use Rattle.cam_types.specs.declared.item.Settings.{Settings}
use Rattle.cam_types.specs.declared.reply.Reply.TheVariants.{Configured}
use Rattle.cam_types.specs.declared.script.Script.{Script}
use Rattle.trace_model.specs.declared.entry.Entry.{Entry}
use Rattle.trace_model.specs.declared.entry.Entry.TheVariants.{Call, Send, Dropped, ErrorDevice}
use Rattle.trace_model.specs.declared.entry.Sent.{Sent}
use Rattle.cam_types.specs.Profile.{max_buffers_of}
use Rattle.trace_model.specs.Fence.{is_same_fence}
use Rattle.trace_model.specs.Place.{Pool, is_at}
use Rattle.trace_model.specs.Printable.{is_filled}
use Rattle.trace_model.specs.Queue.{first_in}
use Rattle.cam_types.specs.declared.request.Queued.{Queued}
use Rattle.cam_types.specs.declared.request.WaitingItem.{WaitingItem}
use Rattle.trace_model.specs.Send.{are_last, are_streams, is_same_bool, last_settings, targets_in_order, with_target}
use Rattle.trace_model.specs.Shutter.{next_time}
use Rattle.state_facts.specs.Turns.{Turns, next_of, repeats_next, settings_next, turns}
use Rattle.state_facts.specs.Turns as queue
use Rattle.state_facts.specs.Homes.{Homes, at_device_in, fence_in, homes, least_in, passed_in, place_in, stream_in}
use Rattle.state_facts.specs.Homes as buffers
use Rattle.state_facts.specs.Clients.{Clients, clients}
use Rattle.state_facts.specs.Clients as client
use Rattle.state_facts.specs.Replies.{may_repeat_in, stopping_in}
use Rattle.state_facts.specs.Row.{Row, open_rows, rows_after}
use Rattle.state_facts.specs.FrameReadings.{buffer_row, device_fails, early_row, failed_row, filled_row, finishes_in, has_pending, late_row, next_exposed, on_row, part_row, request_row, result_row, row_at, shutter_from, time_after}

-- The whole state, what each entry makes of it, and what is due by it.

-- the queue, the buffers, the client and the open frames; the settings that were sent last, and the time of the next
-- shutter
pub record State : Type 0 where
  pub queue : Turns
  pub buffers : Homes
  pub client : Clients
  pub rows : List Row
  pub last : Option Settings
  pub clock : ℕ

-- the state that a past leaves
abbrev pub state : Script → List Entry → State
state script past = record {
  queue = turns script past;
  buffers = homes past;
  client = clients script past;
  rows = open_rows script past;
  last = last_settings script past;
  clock = next_time script past;
}

-- the settings that were sent last: none after a configuration
abbrev pub last_after : Settings → Entry → Option Settings → Option Settings
last_after settings (Call _ _ (Configured _)) old = None
last_after settings (Send _ _ _ _ _) old = Some settings
last_after settings _ old = old

-- the state after an entry, from the state before it alone
abbrev pub state_after : Script → Entry → State → State
state_after script e s =
    let next = next_of s.queue in
    record {
      queue = queue.turns_after script e s.queue;
      buffers = buffers.homes_after e s.buffers;
      client = client.clients_after script (repeats_next next) (finishes_in e s.rows) e s.client;
      rows = rows_after (settings_next next) (repeats_next next) e s.rows;
      last = last_after (settings_next next) e s.last;
      clock = time_after s.rows e s.clock;
    }

-- ---- sends and drops

-- one more buffer of the stream may go to the device
abbrev pub has_room_in : Script → State → ℕ → Bool
has_room_in script s t =
    nat_lt (at_device_in s.buffers t) (max_buffers_of script.profile (slice_get s.client.streams t))

-- the target's buffer is its stream's, in the pool, and goes with the fence with which it came home
abbrev pub takes_in : State → Sent → Bool
takes_in s t =
    list_any (λ b. b == t.buffer.0) (stream_in s.buffers t.stream.0)
    && (is_at (place_in s.buffers t.buffer.0) Pool && is_same_fence t.fence (fence_in s.buffers t.buffer.0))

-- the item may be sent: the service goes on, there is room for one more frame and for each of its buffers, and nothing
-- holds it back if it repeats
abbrev pub may_go_in : Script → State → Queued → Bool
may_go_in script s next =
    not (stopping_in s.client)
    && ((nat_lt (length s.rows) script.profile.depth && list_all (has_room_in script s) (targets_in_order next.item))
    && (not next.repeating || may_repeat_in script s.client))

-- a send is of the next item: its number, its name, its buffers and the mark of settings that stay
abbrev pub fits_in : Script → State → Option Queued → ℕ → ℕ → ℕ → Bool → Four Sent → Bool
fits_in script s None n r i same targets = false
fits_in script s (Some next) n r i same targets =
    ((n == s.queue.numbers) && ((r == next.request.0) && (i == next.index)))
    && (may_go_in script s next
    && ((are_streams (four_list targets) (targets_in_order next.item)
    && (is_filled targets && list_all (takes_in s) (four_list targets)))
    && is_same_bool same (are_last s.last next.item.settings)))

-- a send is allowed
abbrev pub may_send_in : Script → State → ℕ → ℕ → ℕ → Bool → Four Sent → Bool
may_send_in script s n r i same targets = fits_in script s (next_of s.queue) n r i same targets

-- a stream's buffer as a target, with its fence
abbrev pub target_in : State → ℕ → Option ℕ → Option Sent
target_in s t (Some b) =
    Some (record { stream = record { 0 = t }; buffer = record { 0 = b }; fence = fence_in s.buffers b })
target_in s t None = None

-- the least free buffer of each stream
abbrev pub targets_in : State → List ℕ → Option (List Sent)
targets_in s [] = Some []
targets_in s (t ∷ streams) = with_target (target_in s t (least_in s.buffers t)) (targets_in s streams)

-- the send of an item with these targets
abbrev pub send_of : State → Queued → Option (List Sent) → Option Entry
send_of s next None = None
send_of s next (Some targets) =
    Some (Send (record { 0 = s.queue.numbers }) (next.request) next.index (are_last s.last next.item.settings)
    (four_of targets))

-- the send of the next item, where it may go
abbrev pub send_next_in : Script → State → Option Queued → Option Entry
send_next_in script s None = None
send_next_in script s (Some next) =
    if may_go_in script s next then send_of s next (targets_in s (targets_in_order next.item)) else None

-- the send that is due
abbrev pub send_in : Script → State → Option Entry
send_in script s = send_next_in script s (next_of s.queue)

-- the drop of an item under the next number
abbrev pub drop_with : ℕ → Option WaitingItem → Option Entry
drop_with n (Some w) = Some (Dropped (record { 0 = n }) (w.request) w.index)
drop_with n None = None

-- the drop that is due
abbrev pub drop_in : State → Option Entry
drop_in s = if stopping_in s.client then drop_with s.queue.numbers (first_in s.queue.waiting) else None

-- ---- frames

-- the shutter that is due, at the time that the clock tells
abbrev pub shutter_in : Script → State → Option Entry
shutter_in script s = shutter_from script (stopping_in s.client) s.clock (next_exposed s.rows)

-- the device's failure that is due
abbrev pub error_device_in : Script → State → Option Entry
error_device_in script s =
    if device_fails script (stopping_in s.client) (next_exposed s.rows) then Some ErrorDevice else None

-- the partial result of frame n that is due
abbrev pub partial_in : Script → State → ℕ → Option Entry
partial_in script s n = on_row (part_row script s.rows) (row_at n s.rows)

-- the error of the whole capture, that of the metadata and that of stream t's buffer that are due of frame n
abbrev pub error_request_in : Script → State → ℕ → Option Entry
error_request_in script s n = on_row (request_row script) (row_at n s.rows)

abbrev pub error_result_in : Script → State → ℕ → Option Entry
error_result_in script s n = on_row (result_row script s.rows) (row_at n s.rows)

abbrev pub error_buffer_in : Script → State → ℕ → ℕ → Option Entry
error_buffer_in script s n t = on_row (buffer_row script t) (row_at n s.rows)

-- the filled, the early and the failed buffer of stream t that are due of frame n
abbrev pub filled_in : Script → State → ℕ → ℕ → Option Entry
filled_in script s n t = on_row (filled_row script s.client.streams s.rows (passed_in s.buffers) t) (row_at n s.rows)

abbrev pub early_in : Script → State → ℕ → ℕ → Option Entry
early_in script s n t =
    on_row (early_row script s.rows (passed_in s.buffers) (length s.buffers.late) t) (row_at n s.rows)

abbrev pub failed_in : State → ℕ → ℕ → Option Entry
failed_in s n t = on_row (failed_row (passed_in s.buffers) t) (row_at n s.rows)

-- the signal of device fence d that is due, of the row that waits for it
abbrev pub late_in : State → ℕ → Option Entry
late_in s d = on_row (late_row s.client.streams d) (find (has_pending d) s.rows)
