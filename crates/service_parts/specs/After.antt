use Rattle.std.specs.Prelude.{ℕ, ◌==◌, ◌+◌, ◌-◌, Bool, false, ◌&&◌, List, [], ◌∷◌, ◌++◌, Option, Some, None, filter, is_none, length, max, nat_le, replicate, slice_get, slice_index_or, slice_set, if◌then◌else◌}
use Rattle.cam_types.specs.Four.{four_list}
use Rattle.cam_types.specs.Limits.{frame_time}
use Rattle.cam_types.specs.Rows.{is_open}
use Rattle.cam_types.specs.declared.item.Settings.{Settings}
use Rattle.cam_types.specs.declared.number.FrameNo.{FrameNo}
use Rattle.cam_types.specs.declared.reply.Reply.TheVariants.{Configured, Submitted}
use Rattle.cam_types.specs.declared.row.RowView.{RowView}
use Rattle.cam_types.specs.declared.row.TargetView.{TargetView}
use Rattle.cam_types.specs.declared.script.Script.{Script}
use Rattle.trace_model.specs.declared.entry.Entry.{Entry}
use Rattle.trace_model.specs.declared.entry.Entry.TheVariants.{Call, Send, Shutter as ShutterEntry, Filled, Failed, Release, Early, Late}
use Rattle.trace_model.specs.Calls.{command_at, is_repeat}
use Rattle.trace_model.specs.Client.{is_empty}
use Rattle.run_model.specs.declared.step.Move.{Move}
use Rattle.run_model.specs.declared.step.StepName.{StepName}
use Rattle.run_model.specs.declared.step.StepName.TheVariants.{Fail, ReturnFailed, Partial, Deliver, Finish}
use Rattle.state_facts.specs.Turns.{Turns, next_of}
use Rattle.state_facts.specs.Turns as queue
use Rattle.state_facts.specs.Homes.{Homes, all_home, all_signalled, count_in, put_all}
use Rattle.state_facts.specs.Homes as buffers
use Rattle.state_facts.specs.Clients.{Clients}
use Rattle.state_facts.specs.Clients as client
use Rattle.state_facts.specs.Turns.{repeats_next, settings_next}
use Rattle.state_facts.specs.States.{last_after}
use Rattle.device_rows.specs.Rows.{row_at, target_in}
use Rattle.run_rows.specs.Changes.{after}
use Rattle.run_rows.specs.Kept.{is_no_row}
use Rattle.service_parts.specs.Moves.{settings_at}
use Rattle.service_parts.specs.Parts.{Parts}
use Rattle.service_parts.specs.Pictures.{picture_on}

-- What each move makes of the parts of a service.

-- ---- frames of repeating requests that end

-- the frame whose last entry a step may add
abbrev pub ending_frame : StepName → Option FrameNo
ending_frame (Fail n) = Some n
ending_frame (ReturnFailed n s) = Some n
ending_frame (Partial n) = Some n
ending_frame (Deliver n s) = Some n
ending_frame (Finish n s) = Some n
ending_frame _ = None

-- the row is of a request whose items repeat
abbrev pub repeats_in : List Bool → Option RowView → Bool
repeats_in kinds (Some row) = slice_index_or kinds row.request.0 false
repeats_in kinds None = false

-- the frame is of a repeating request, and its row goes
abbrev pub ends_by : List Bool → List RowView → List RowView → Option FrameNo → Bool
ends_by kinds rows left (Some n) = repeats_in kinds (row_at n.0 rows) && is_none (row_at n.0 left)
ends_by kinds rows left None = false

-- ---- each part

abbrev pub client_after : Script → Bool → Bool → Option Entry → Clients → Clients
client_after script repeats ends (Some e) t = client.clients_after script repeats ends e t
client_after script repeats ends None t = t

abbrev pub queue_after : Script → Option Entry → Turns → Turns
queue_after script (Some e) t = queue.turns_after script e t
queue_after script None t = t

-- one more request is accepted
abbrev pub kinds_with : Script → Entry → List Bool → List Bool
kinds_with script (Call i _ (Submitted r)) kinds = kinds ++ is_repeat (command_at script i) ∷ []
kinds_with script _ kinds = kinds

abbrev pub kinds_after : Script → Option Entry → List Bool → List Bool
kinds_after script (Some e) kinds = kinds_with script e kinds
kinds_after script None kinds = kinds

abbrev pub buffers_after : Option Entry → Homes → Homes
buffers_after (Some e) t = buffers.homes_after e t
buffers_after None t = t

abbrev pub last_with : Settings → Option Entry → Option Settings → Option Settings
last_with settings (Some e) old = last_after settings e old
last_with settings None old = old

-- ---- the pictures that the client has

-- the picture of frame n for stream s
abbrev pub picture_by : Parts → ℕ → ℕ → List ℕ
picture_by p n s = picture_on (slice_get p.client.streams s) (settings_at (row_at n p.rows)) n

-- buffer b shows the client this from now on
abbrev pub showing : Parts → ℕ → Option (List ℕ) → List (Option (List ℕ))
showing p b picture = slice_set p.pictures (b - p.buffers.first) picture

abbrev pub showing_target : Parts → Option TargetView → List ℕ → List (Option (List ℕ))
showing_target p (Some target) picture = showing p target.buffer.0 (Some picture)
showing_target p None picture = p.pictures

-- the picture of an early return is there: it is of the target that the step names
abbrev pub finished_by : Parts → StepName → List (Option (List ℕ))
finished_by p (Finish n s) = showing_target p (target_in n.0 s.0 p.rows) (picture_by p n.0 s.0)
finished_by p _ = p.pictures

abbrev pub pictures_with : Parts → StepName → Entry → List (Option (List ℕ))
pictures_with p step (Call _ _ (Configured each)) = replicate (count_in (four_list each)) None
pictures_with p step (Send _ _ _ _ targets) = put_all p.buffers.first None (four_list targets) p.pictures
pictures_with p step (Filled n s b _ _) = showing p b.0 (Some (picture_by p n.0 s.0))
pictures_with p step (Failed _ _ b _) = showing p b.0 None
pictures_with p step (Release b _) = showing p b.0 None
pictures_with p step (Early _ _ b _) = showing p b.0 None
pictures_with p step (Late _ _) = finished_by p step
pictures_with p step _ = p.pictures

abbrev pub pictures_after : Parts → StepName → Option Entry → List (Option (List ℕ))
pictures_after p step (Some e) = pictures_with p step e
pictures_after p step None = p.pictures

-- the picture that the client has in buffer b
abbrev pub picture_in : Parts → ℕ → Option (List ℕ)
picture_in p b =
    if nat_le p.buffers.first b then slice_index_or p.pictures (b - p.buffers.first) None else None

-- ---- time and rows

-- the next shutter follows this one by the time of a frame, or by its exposure if that is more
abbrev pub clock_by : List RowView → Option Entry → ℕ → ℕ
clock_by rows (Some (ShutterEntry n time)) old = time + max frame_time (settings_at (row_at n.0 rows)).exposure
clock_by rows _ old = old

-- the rows that stay: those of the frames that are open after the move
abbrev pub rows_after : Parts → Move → List RowView
rows_after p m = filter is_open (after (settings_next (next_of p.queue)) m p.rows)

-- ---- the parts after a move

abbrev pub parts_after : Script → Move → Parts → Parts
parts_after script m p = let next = next_of p.queue in record {
  client =
      client_after script (repeats_next next) (ends_by p.kinds p.rows (rows_after p m) (ending_frame m.step)) m.entry
      p.client;
  queue = queue_after script m.entry p.queue;
  kinds = kinds_after script m.entry p.kinds;
  buffers = buffers_after m.entry p.buffers;
  pictures = pictures_after p m.step m.entry;
  rows = rows_after p m;
  last = last_with (settings_next next) m.entry p.last;
  clock = clock_by p.rows m.entry p.clock;
}

-- ---- the end

-- every command is called, no frame is open, nothing waits, every buffer is in its pool and every fence is signalled
abbrev pub is_over : Script → Parts → Bool
is_over script p =
    (p.client.calls == length script.commands)
    && ((is_no_row p.rows && is_empty p.queue.waiting) && (all_home p.buffers && all_signalled p.buffers))
