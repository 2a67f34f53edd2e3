use Rattle.std.specs.Prelude.{ℕ, ◌==◌, ◌+◌, Bool, true, false, ◌&&◌, ◌||◌, not, List, [], ◌∷◌, Option, Some, None, nat_lt, filter, find, length, take, slice_get, if◌then◌else◌}
use Rattle.std.specs.List.{list_any, list_all}
use Rattle.cam_types.specs.Four.{four_list, four_of}
use Rattle.cam_types.specs.Limits.{repeating_ahead}
use Rattle.cam_types.specs.declared.four.Four.{Four}
use Rattle.cam_types.specs.declared.item.Item.{Item}
use Rattle.cam_types.specs.declared.item.Settings.{Settings}
use Rattle.cam_types.specs.declared.reply.Reply.TheVariants.{Configured}
use Rattle.cam_types.specs.declared.script.Command.{Command}
use Rattle.cam_types.specs.declared.script.Command.TheVariants.{Await}
use Rattle.cam_types.specs.declared.script.Script.{Script}
use Rattle.cam_types.specs.declared.script.Word.{Word}
use Rattle.cam_types.specs.declared.script.Word.TheVariants.{Configure as WordConfigure, Await as WordAwait, Close as WordClose}
use Rattle.trace_model.specs.declared.entry.Entry.{Entry}
use Rattle.trace_model.specs.declared.entry.Entry.TheVariants.{Call, Send}
use Rattle.trace_model.specs.declared.entry.Sent.{Sent}
use Rattle.trace_model.specs.Calls.{begun, item_at, is_repeating, next_command}
use Rattle.trace_model.specs.Configuration.{buffers_of, streams}
use Rattle.cam_types.specs.Profile.{max_buffers_of}
use Rattle.trace_model.specs.Fence.{fence_of, is_same_fence}
use Rattle.trace_model.specs.Frames.{settings_in}
use Rattle.trace_model.specs.Numbers.{next_number}
use Rattle.trace_model.specs.Open.{open_count}
use Rattle.trace_model.specs.Printable.{is_filled}
use Rattle.trace_model.specs.Place.{Pool, Device, place, is_at}
use Rattle.trace_model.specs.Queue.{next}
use Rattle.cam_types.specs.declared.request.Queued.{Queued}
use Rattle.trace_model.specs.Stopping.{is_stopping}

-- When an item may be sent to the device (camera3.h, process_capture_request; configure_streams on max_buffers).

-- the streams that an item asks for, in ascending order
abbrev pub targets_in_order : Item → List ℕ
targets_in_order item =
    filter (λ s. list_any (λ t. t == s) (take item.targets.count item.targets.list)) (0 ∷ (1 ∷ (2 ∷ (3 ∷ []))))

-- the entry's targets are these streams, in order
abbrev pub are_streams : List Sent → List ℕ → Bool
are_streams [] [] = true
are_streams (t ∷ targets) (s ∷ streams) = (t.stream.0 == s) && are_streams targets streams
are_streams _ _ = false

-- a target's buffer is one of its stream's, is in the pool, and comes with the fence that it has there
abbrev pub takes_from_pool : List Entry → Sent → Bool
takes_from_pool past t =
    list_any (λ b. b == t.buffer.0) (buffers_of past t.stream.0)
    && (is_at (place t.buffer.0 past) Pool && is_same_fence t.fence (fence_of t.buffer.0 past))

-- how many buffers of stream s are at the device
abbrev pub at_device_count : List Entry → ℕ → ℕ
at_device_count past s = length (filter (λ b. is_at (place b past) Device) (buffers_of past s))

-- the device takes a further buffer of stream s
abbrev pub has_room : Script → List Entry → ℕ → Bool
has_room script past s =
    nat_lt (at_device_count past s) (max_buffers_of script.profile (slice_get (streams script past) s))

-- a configure or a close has begun: no repeating item is sent while it waits for the device to be quiet
abbrev pub holds_back : Option Word → Bool
holds_back (Some WordConfigure) = true
holds_back (Some WordClose) = true
holds_back _ = false

-- how many repeating frames were sent after the last call
abbrev pub repeated_since_call : Script → List Entry → ℕ
repeated_since_call script [] = 0
repeated_since_call script (Call _ _ _ ∷ past) = 0
repeated_since_call script (Send _ r _ _ _ ∷ past) =
    (if is_repeating script past r.0 then 1 else 0) + repeated_since_call script past
repeated_since_call script (_ ∷ past) = repeated_since_call script past

abbrev pub awaited_in : Option Word → Option Command → ℕ
awaited_in (Some WordAwait) (Some (Await k)) = k
awaited_in _ _ = 0

-- how many frames the await that has begun waits for
abbrev pub awaited : Script → List Entry → ℕ
awaited script past = awaited_in (begun past) (next_command script past)

-- a repeating item may be sent: at most 64 of them after a call, and as many more as an await waits for (our own
-- choice)
abbrev pub may_repeat : Script → List Entry → Bool
may_repeat script past =
    not (holds_back (begun past)) && nat_lt (repeated_since_call script past) (repeating_ahead + awaited script past)

-- the device takes a further frame for these streams: no more are open than the profile's depth (our own choice)
abbrev pub has_capacity : Script → List Entry → List ℕ → Bool
has_capacity script past targets =
    nat_lt (open_count past) script.profile.depth && list_all (has_room script past) targets

-- the settings of the last frame that was sent after the last accepted configuration
abbrev pub last_settings : Script → List Entry → Option Settings
last_settings script [] = None
last_settings script (Call _ _ (Configured _) ∷ past) = None
last_settings script (Send _ r i _ _ ∷ past) = Some (settings_in (item_at script past r.0 i))
last_settings script (_ ∷ past) = last_settings script past

abbrev pub are_same : Settings → Settings → Bool
are_same s t = (s.pattern == t.pattern) && ((s.level == t.level) && ((s.exposure == t.exposure) && (s.iso == t.iso)))

abbrev pub are_last : Option Settings → Settings → Bool
are_last (Some s) t = are_same s t
are_last None t = false

-- the mark: the settings are those of the most recently sent frame, so the device needn't be told them again, which
-- can't be said of the first frame after a configuration (camera3.h, camera3_capture_request.settings)
abbrev pub mark_of : Script → List Entry → Settings → Bool
mark_of script past s = are_last (last_settings script past) s

-- nothing stands against sending this item now, whatever buffers it takes
abbrev pub may_go : Script → List Entry → Queued → Bool
may_go script past next =
    not (is_stopping past)
    && (has_capacity script past (targets_in_order next.item) && (not next.repeating || may_repeat script past))

abbrev pub is_same_bool : Bool → Bool → Bool
is_same_bool true b = b
is_same_bool false b = not b

abbrev pub fits_next : Script → List Entry → Option Queued → ℕ → ℕ → ℕ → Bool → Four Sent → Bool
fits_next script past None n r i same targets = false
fits_next script past (Some next) n r i same targets =
    ((n == next_number past) && ((r == next.request.0) && (i == next.index)))
    && (may_go script past next
    && ((are_streams (four_list targets) (targets_in_order next.item)
    && (is_filled targets && list_all (takes_from_pool past) (four_list targets)))
    && is_same_bool same (mark_of script past next.item.settings)))

-- the send is allowed: the next item under the next number, with buffers of the pool. Which buffer is taken is free.
abbrev pub may_send : Script → List Entry → ℕ → ℕ → ℕ → Bool → Four Sent → Bool
may_send script past n r i same targets = fits_next script past (next script past) n r i same targets

-- the least buffer of stream s in the pool, as a target
abbrev pub least_in_pool : List Entry → ℕ → Option ℕ
least_in_pool past s = find (λ b. is_at (place b past) Pool) (buffers_of past s)

abbrev pub target_with : List Entry → ℕ → Option ℕ → Option Sent
target_with past s (Some b) =
    Some (record { stream = record { 0 = s }; buffer = record { 0 = b }; fence = fence_of b past })
target_with past s None = None

abbrev pub least_target : List Entry → ℕ → Option Sent
least_target past s = target_with past s (least_in_pool past s)

abbrev pub with_target : Option Sent → Option (List Sent) → Option (List Sent)
with_target (Some t) (Some targets) = Some (t ∷ targets)
with_target _ _ = None

-- each of the streams has a buffer in the pool: these targets
abbrev pub least_targets : List Entry → List ℕ → Option (List Sent)
least_targets past [] = Some []
least_targets past (s ∷ streams) = with_target (least_target past s) (least_targets past streams)

abbrev pub send_with : Script → List Entry → Queued → Option (List Sent) → Option Entry
send_with script past next None = None
send_with script past next (Some targets) =
    Some (Send (record { 0 = next_number past }) next.request next.index (mark_of script past next.item.settings)
    (four_of targets))

abbrev pub send_next : Script → List Entry → Option Queued → Option Entry
send_next script past None = None
send_next script past (Some next) =
    if may_go script past next then send_with script past next (least_targets past (targets_in_order next.item))
    else None

-- the send that is due: the allowed one with the least buffer of the pool for each target
abbrev pub send_due : Script → List Entry → Option Entry
send_due script past = send_next script past (next script past)
