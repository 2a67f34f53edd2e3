-- The calls of the device: which error a call ends with, and what it makes of the state.
use Rattle.std.specs.Prelude.{◌≡◌, ℕ, ◌+◌, ◌==◌, Bool, true, false, ◌&&◌, ◌||◌, not, List, [], ◌∷◌, ◌++◌, Option, Some, None, find, is_some, length, nat_lt, slice_get, if◌then◌else◌}
use Rattle.std.specs.List.{list_any}
use Rattle.std.specs.Option.{option_map}
use Rattle.cam_types.specs.Metadata.{range_fault}
use Rattle.cam_types.specs.Picture.{length_in}
use Rattle.cam_types.specs.Profile.{is_profile}
use Rattle.cam_types.specs.Refusals.{specs_refusal}
use Rattle.cam_types.specs.declared.four.Four.{Four}
use Rattle.cam_types.specs.declared.item.Settings.{Settings}
use Rattle.cam_types.specs.declared.number.StreamIx.{StreamIx}
use Rattle.cam_types.specs.declared.partial_result.PartialResult.{PartialResult}
use Rattle.cam_types.specs.declared.profile.Profile.{Profile}
use Rattle.cam_types.specs.declared.row.RowView.{RowView}
use Rattle.cam_types.specs.declared.row.SensorPlace.TheVariants.{NotYet}
use Rattle.cam_types.specs.declared.row.TargetState.TheVariants.{Waiting}
use Rattle.cam_types.specs.declared.row.TargetView.{TargetView}
use Rattle.cam_types.specs.declared.stream.StreamSpec.{StreamSpec}
use Rattle.device_core.specs.View.{with_plan}
use Rattle.device_rows.specs.Ready.{is_delivery_ready, is_failed_return_ready, is_fill_ready, is_retire_ready, next_error, next_part, shutter_row}
use Rattle.device_rows.specs.Rows.{all_stopped, delivered, exposed, fill_begun, fill_ended, returned_failed, sensor_home, with_error, with_part, with_row, without}
use Rattle.device_rows.specs.declared.entry.ErrorEntry.{ErrorEntry}
use Rattle.device_rows.specs.declared.entry.ErrorEntry.TheVariants.{Device}
use Rattle.buffer_pool.specs.Fences.{is_signalled, no_fences}
use Rattle.hal_device_model.specs.State.{HalDeviceState, Spare, Spares, back_at, in_rows, in_rows_with, lent, spares_for, streams_in}
use Rattle.hal_device_model.specs.declared.error.CallError.{CallError}
use Rattle.hal_device_model.specs.declared.error.CallError.TheVariants.{InvalidArgument, NoDevice, WrongSequence, NoMemory, Busy}
use Rattle.hal_model.specs.declared.event.HalTarget.{HalTarget}
use Rattle.request_checks.specs.Plan.{plan_of}

-- a call ends with the error that is due; where none is, only want of memory may end it
abbrev pub IsRefusal : Option CallError → CallError → Type 0
IsRefusal (Some due) error = error ≡ due
IsRefusal None error = error ≡ NoMemory

abbrev pub is_no_row : List RowView → Bool
is_no_row rows = length rows == 0

-- the device failed, or the close has begun: nothing more is accepted
abbrev pub is_over : HalDeviceState → Bool
is_over state = state.failed || state.closing

-- the profile of a device that is opened has numbers from 1 to 16 (our own choice)
abbrev pub open_error : Profile → Option CallError
open_error profile = if is_profile profile then None else Some InvalidArgument

-- ---- initialize (camera3.h, S2.3 and S6)

abbrev pub initialize_error : HalDeviceState → Option CallError
initialize_error state =
    if is_over state then Some NoDevice else (if state.initialized then Some WrongSequence else None)

abbrev pub initialized : HalDeviceState → HalDeviceState
initialized state = record state { initialized = true }

-- ---- configure_streams (camera3.h, configure_streams and S6): no request is at the device

abbrev pub sequence_error : HalDeviceState → Option CallError
sequence_error state =
    if is_over state then Some NoDevice
    else (if not state.initialized || (state.flushing || not (is_no_row state.device.rows)) then Some WrongSequence else None)

abbrev pub or_refused : List StreamSpec → Option CallError → Option CallError
or_refused specs (Some error) = Some error
or_refused specs None = if is_some (specs_refusal specs) then Some InvalidArgument else None

abbrev pub configure_error : List StreamSpec → HalDeviceState → Option CallError
configure_error specs state = or_refused specs (sequence_error state)

abbrev pub configured : List StreamSpec → HalDeviceState → HalDeviceState
configured specs state = record state {
  device = with_plan (plan_of state.profile specs) state.device;
  spares = spares_for state.profile specs;
  last = None;
}

-- ---- process_capture_request (camera3.h, process_capture_request, camera3_capture_request)

-- a stream or a buffer is named twice
abbrev pub is_again : HalTarget → HalTarget → Bool
is_again t u = (u.stream == t.stream) || (u.buffer == t.buffer)

abbrev pub names_twice : List HalTarget → Bool
names_twice [] = false
names_twice (t ∷ targets) = list_any (is_again t) targets || names_twice targets

-- no target, one of a stream that isn't configured, or a stream or buffer twice
abbrev pub are_bad_targets : ℕ → List HalTarget → Bool
are_bad_targets streams targets =
    (length targets == 0) || (list_any (λ t. not (nat_lt t.stream streams)) targets || names_twice targets)

-- the settings of the request; without any those of the one before
abbrev pub settings_of : Option Settings → Option Settings → Option Settings
settings_of (Some settings) last = Some settings
settings_of None last = last

abbrev pub are_bad_settings : Option Settings → Bool
are_bad_settings (Some settings) = is_some (range_fault settings)
are_bad_settings None = true

-- the target for stream s, if there is one
abbrev pub fresh_target : ℕ → HalTarget → TargetView
fresh_target s t = record {
  stream = record { 0 = s };
  buffer = record { 0 = t.buffer };
  fence = None;
  announced = false;
  state = Waiting;
}

abbrev pub placed_at : ℕ → List HalTarget → Option TargetView
placed_at s targets = option_map (fresh_target s) (find (λ t. t.stream == s) targets)

-- the target for each of the streams 0 to 3
abbrev pub placed : List HalTarget → Four TargetView
placed targets = record {
  a = placed_at 0 targets;
  b = placed_at 1 targets;
  c = placed_at 2 targets;
  d = placed_at 3 targets;
}

abbrev pub lacks_block : Option TargetView → Spare → Bool
lacks_block (Some target) spare = spare.free == 0
lacks_block None spare = false

abbrev pub lacks_blocks : Four TargetView → Spares → Bool
lacks_blocks targets spares =
    (lacks_block targets.a spares.a || lacks_block targets.b spares.b)
    || (lacks_block targets.c spares.c || lacks_block targets.d spares.d)

abbrev pub lent_for : Option TargetView → Spare → Spare
lent_for (Some target) spare = lent spare
lent_for None spare = spare

abbrev pub lent_to : Four TargetView → Spares → Spares
lent_to targets spares = record {
  a = lent_for targets.a spares.a;
  b = lent_for targets.b spares.b;
  c = lent_for targets.c spares.c;
  d = lent_for targets.d spares.d;
}

-- the request comes too early: nothing is configured
abbrev pub is_early : HalDeviceState → Bool
is_early state = not state.initialized || (length (streams_in state) == 0)

abbrev pub is_malformed : ℕ → Option Settings → List HalTarget → HalDeviceState → Bool
is_malformed frame settings targets state =
    nat_lt frame state.next
    || (are_bad_targets (length (streams_in state)) targets || are_bad_settings (settings_of settings state.last))

-- it waits for the end of a flush, for a row or for a block
abbrev pub has_to_wait : List HalTarget → HalDeviceState → Bool
has_to_wait targets state =
    state.flushing
    || ((length state.device.rows == state.device.capacity) || lacks_blocks (placed targets) state.spares)

abbrev pub request_error : ℕ → Option Settings → List HalTarget → HalDeviceState → Option CallError
request_error frame settings targets state =
    if is_over state then Some NoDevice
    else (if is_early state then Some WrongSequence
    else (if is_malformed frame settings targets state then Some InvalidArgument
    else (if has_to_wait targets state then Some Busy else None)))

-- the row of a frame that is sent now
abbrev pub fresh_row : ℕ → Settings → List HalTarget → RowView
fresh_row frame settings targets = record {
  frame = record { 0 = frame };
  request = record { 0 = frame };
  settings = settings;
  targets = placed targets;
  shutter = None;
  parts = 0;
  request_error = false;
  result_error = false;
  sensor = NotYet;
  stopped = false;
}

abbrev pub requested : ℕ → Settings → List HalTarget → HalDeviceState → HalDeviceState
requested frame settings targets state = record state {
  device = record state.device { rows = state.device.rows ++ fresh_row frame settings targets ∷ [] };
  spares = lent_to (placed targets) state.spares;
  last = Some settings;
  next = frame + 1;
}

abbrev pub requested_with : ℕ → Option Settings → List HalTarget → HalDeviceState → HalDeviceState
requested_with frame (Some settings) targets state = requested frame settings targets state
requested_with frame None targets state = state

-- ---- steps: each changes the row of one frame, which goes when the frame isn't open any more

abbrev pub settled : ℕ → List RowView → List RowView
settled n rows = if is_retire_ready rows n then without n rows else rows

-- the row whose exposure is next
abbrev pub exposure_in : HalDeviceState → Option RowView
exposure_in state = shutter_row state.device.faults state.device.rows

-- the exposure begins, and its readout comes home
abbrev pub exposed_rows : ℕ → Option RowView → List RowView → List RowView
exposed_rows time (Some row) rows = with_row row.frame.0 sensor_home (with_row row.frame.0 (exposed time) rows)
exposed_rows time None rows = rows

abbrev pub after_exposure : ℕ → HalDeviceState → HalDeviceState
after_exposure time state = in_rows (exposed_rows time (exposure_in state) state.device.rows) state

abbrev pub part_in : ℕ → HalDeviceState → Option (ℕ × PartialResult)
part_in n state = next_part state.device.faults state.device.rows n

abbrev pub sent_rows : ℕ → Option (ℕ × PartialResult) → List RowView → List RowView
sent_rows n (Some sent) rows = settled n (with_row n (with_part sent.0) rows)
sent_rows n None rows = rows

abbrev pub after_part : ℕ → HalDeviceState → HalDeviceState
after_part n state = in_rows (sent_rows n (part_in n state) state.device.rows) state

-- a stage may fill the buffer; the device waits for no fence itself: who calls it has waited for the acquire fence
abbrev pub may_fill : ℕ → ℕ → HalDeviceState → Bool
may_fill n s state = is_fill_ready state.device.faults (λ f. is_signalled f (no_fences 0)) state.device.rows n s

abbrev pub filled_rows : ℕ → StreamIx → List RowView → List RowView
filled_rows n s rows = with_row n (fill_ended s) (with_row n (fill_begun s) rows)

abbrev pub after_fill : ℕ → StreamIx → HalDeviceState → HalDeviceState
after_fill n s state = in_rows (filled_rows n s state.device.rows) state

-- the picture of the stream has so many bytes
abbrev pub has_length : ℕ → Option StreamSpec → Bool
has_length room (Some spec) = length_in spec.format spec.width spec.height == room
has_length room None = false

-- the filled buffer may come back, into memory of so many bytes
abbrev pub may_deliver : ℕ → ℕ → ℕ → HalDeviceState → Bool
may_deliver n s room state =
    has_length room (slice_get (streams_in state) s)
    && is_delivery_ready state.device.faults state.device.rows n s

abbrev pub delivered_rows : ℕ → StreamIx → List RowView → List RowView
delivered_rows n s rows = settled n (with_row n (delivered s) rows)

abbrev pub after_delivery : ℕ → StreamIx → HalDeviceState → HalDeviceState
after_delivery n s state =
    in_rows_with (back_at s.0 state.spares) (delivered_rows n s state.device.rows) state

abbrev pub may_return_failed : ℕ → ℕ → HalDeviceState → Bool
may_return_failed n s state = is_failed_return_ready state.device.rows n s

abbrev pub failed_rows : ℕ → StreamIx → List RowView → List RowView
failed_rows n s rows = settled n (with_row n (returned_failed s) rows)

abbrev pub after_failed_return : ℕ → StreamIx → HalDeviceState → HalDeviceState
after_failed_return n s state = in_rows_with (back_at s.0 state.spares) (failed_rows n s state.device.rows) state

abbrev pub error_in : ℕ → HalDeviceState → Option ErrorEntry
error_in n state = next_error state.device.faults state.device.rows n

abbrev pub is_device_error : Option ErrorEntry → Bool
is_device_error (Some Device) = true
is_device_error _ = false

abbrev pub error_rows : ℕ → Option ErrorEntry → List RowView → List RowView
error_rows n (Some error) rows = settled n (with_error error rows)
error_rows n None rows = rows

abbrev pub after_error : ℕ → HalDeviceState → HalDeviceState
after_error n state = record state {
  device = record state.device { rows = error_rows n (error_in n state) state.device.rows };
  failed = state.failed || is_device_error (error_in n state);
}

-- ---- flush and close (camera3.h, flush, S2.12): all rows are stopped; a flush ends when none is left

abbrev pub flush_error : HalDeviceState → Option CallError
flush_error state =
    if is_over state then Some NoDevice
    else (if not state.initialized then Some WrongSequence else (if state.flushing then Some Busy else None))

abbrev pub stopped : HalDeviceState → HalDeviceState
stopped state = in_rows (all_stopped state.device.rows) state

abbrev pub flush_begun : HalDeviceState → HalDeviceState
flush_begun state = record (stopped state) { flushing = true }

abbrev pub close_begun : HalDeviceState → HalDeviceState
close_begun state = record (stopped state) { closing = true }

abbrev pub end_error : HalDeviceState → Option CallError
end_error state =
    if not state.flushing then Some WrongSequence
    else (if not (is_no_row state.device.rows) then Some Busy else None)

abbrev pub ended : HalDeviceState → HalDeviceState
ended state = record state { flushing = false }
