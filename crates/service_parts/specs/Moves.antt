use Rattle.std.specs.Prelude.{ℕ, Bool, ◌&&◌, ◌||◌, not, List, Option, Some, None, is_some, length, nat_lt, slice_get, if◌then◌else◌}
use Rattle.std.specs.List.{list_all}
use Rattle.std.specs.Option.{option_and_then, option_map}
use Rattle.cam_types.specs.declared.item.Settings.{Settings}
use Rattle.cam_types.specs.declared.number.DeviceFenceNo.{DeviceFenceNo}
use Rattle.cam_types.specs.declared.request.Queued.{Queued}
use Rattle.cam_types.specs.declared.row.RowView.{RowView}
use Rattle.cam_types.specs.declared.script.Script.{Script}
use Rattle.trace_model.specs.declared.entry.Entry.{Entry}
use Rattle.trace_model.specs.declared.entry.Entry.TheVariants.{Late}
use Rattle.trace_model.specs.Frames.{no_settings}
use Rattle.trace_model.specs.Picture.{digest_on}
use Rattle.trace_model.specs.Send.{targets_in_order}
use Rattle.run_model.specs.declared.step.Move.{Move}
use Rattle.run_model.specs.declared.step.StepName.{StepName}
use Rattle.run_model.specs.declared.step.StepName.TheVariants.{Send, Release, Signal, Client, DropQueued, Fail, ReturnFailed, Shutter, SensorDone, Partial, TakeFill, FillDone, Deliver, Early, Finish}
use Rattle.run_model.specs.Ready.{adding, or_entry, silent, where_entry}
use Rattle.state_facts.specs.Turns.{next_of}
use Rattle.state_facts.specs.Homes.{held_in, release_in, signal_in, signalled_in}
use Rattle.state_facts.specs.Replies.{begin_in, call_in, may_repeat_in, stopping_in}
use Rattle.state_facts.specs.States.{drop_in, has_room_in, send_of, targets_in}
use Rattle.device_rows.specs.Jobs.{fill_job_at, sensor_job_at}
use Rattle.device_rows.specs.Ready.{is_delivery_ready, is_early_ready, is_failed_return_ready, is_fill_ready, is_finish_ready, next_error, next_part, shutter_row}
use Rattle.device_rows.specs.Rows.{row_at, target_in}
use Rattle.run_rows.specs.Entries.{early_entry, error_entry, failed_entry, filled_entry, part_entry, shutter_entry}
use Rattle.run_rows.specs.Kept.{is_no_row}
use Rattle.service_parts.specs.Parts.{Parts, base}

-- Which step is ready, and which move it makes, read from the parts of a service.

-- ---- sends

-- the item may be sent: the service goes on, there is room for one more frame and for each of its buffers, and nothing
-- holds it back if it repeats
abbrev pub may_go_by : Script → Parts → Queued → Bool
may_go_by script p next =
    not (stopping_in p.client)
    && ((nat_lt (length p.rows) script.profile.depth
    && list_all (has_room_in script (base p)) (targets_in_order next.item))
    && (not next.repeating || may_repeat_in script p.client))

-- the send of the next item, where it may go and each stream has a buffer in its pool
abbrev pub send_next_by : Script → Parts → Option Queued → Option Entry
send_next_by script p (Some next) =
    if may_go_by script p next then send_of (base p) next (targets_in (base p) (targets_in_order next.item)) else None
send_next_by script p None = None

abbrev pub send_by : Script → Parts → Option Entry
send_by script p = send_next_by script p (next_of p.queue)

-- ---- pictures

abbrev pub settings_at : Option RowView → Settings
settings_at (Some row) = row.settings
settings_at None = no_settings

-- the digest of the picture of frame n for stream s
abbrev pub digest_by : Parts → ℕ → ℕ → List ℕ
digest_by p n s = digest_on (slice_get p.client.streams s) (settings_at (row_at n p.rows)) n

-- ---- early returns

-- the signal of the device fence
abbrev pub late_entry : List ℕ → DeviceFenceNo → Entry
late_entry digest d = Late d digest

-- the device fence with which the buffer of frame n for stream s came back early
abbrev pub early_fence_by : Parts → ℕ → ℕ → Option DeviceFenceNo
early_fence_by p n s = option_and_then (λ target. held_in p.buffers target.buffer.0) (target_in n s p.rows)

-- ---- the move of a step, where it is ready

abbrev pub move_by : Script → Parts → StepName → Option Move
move_by script p Send = adding Send (send_by script p)
move_by script p (Release b) = adding (Release b) (release_in p.buffers b.0)
move_by script p (Signal f) = adding (Signal f) (signal_in p.buffers f.0)
move_by script p Client =
    adding Client
    (or_entry (begin_in script p.client) (call_in script (is_no_row p.rows) p.client p.queue p.buffers))
move_by script p DropQueued = adding DropQueued (drop_in (base p))
move_by script p (Fail n) = adding (Fail n) (option_map error_entry (next_error script.faults p.rows n.0))
move_by script p (ReturnFailed n s) =
    adding (ReturnFailed n s)
    (where_entry (is_failed_return_ready p.rows n.0 s.0)
    (option_map (failed_entry (λ f. signalled_in p.buffers f) n.0 s.0) (target_in n.0 s.0 p.rows)))
move_by script p Shutter = adding Shutter (option_map (shutter_entry p.clock) (shutter_row script.faults p.rows))
move_by script p (SensorDone n) = silent (SensorDone n) (is_some (sensor_job_at n.0 p.rows))
move_by script p (Partial n) =
    adding (Partial n) (option_map (part_entry n.0) (next_part script.faults p.rows n.0))
move_by script p (TakeFill n s) =
    silent (TakeFill n s) (is_fill_ready script.faults (λ f. signalled_in p.buffers f) p.rows n.0 s.0)
move_by script p (FillDone n s) = silent (FillDone n s) (is_some (fill_job_at p.client.streams n.0 s.0 p.rows))
move_by script p (Deliver n s) =
    adding (Deliver n s)
    (where_entry (is_delivery_ready script.faults p.rows n.0 s.0)
    (option_map (filled_entry (digest_by p n.0 s.0) n.0 s.0) (target_in n.0 s.0 p.rows)))
move_by script p (Early n s) =
    adding (Early n s)
    (where_entry (script.early && is_early_ready script.faults p.rows n.0 s.0)
    (option_map (early_entry (length p.buffers.late) n.0 s.0) (target_in n.0 s.0 p.rows)))
move_by script p (Finish n s) =
    adding (Finish n s)
    (where_entry (is_finish_ready p.rows n.0 s.0)
    (option_map (late_entry (digest_by p n.0 s.0)) (early_fence_by p n.0 s.0)))
