-- The hal log of a list of calls of the device. Lists have the newest first. A call that has to wait (Busy) stands in
-- the log once it is made anew and ends.
use Rattle.std.specs.Prelude.{ℕ, ◌==◌, Bool, true, false, List, [], ◌∷◌, ◌++◌, Option, Some, None, find, if◌then◌else◌}
use Rattle.cam_types.specs.declared.item.Settings.{Settings}
use Rattle.cam_types.specs.declared.number.StreamIx.{StreamIx}
use Rattle.cam_types.specs.declared.partial_result.PartialResult.{PartialResult}
use Rattle.cam_types.specs.declared.row.RowView.{RowView}
use Rattle.cam_types.specs.declared.row.TargetView.{TargetView}
use Rattle.cam_types.specs.declared.row.TargetState.TheVariants.{Waiting}
use Rattle.cam_types.specs.declared.stream.StreamSpec.{StreamSpec}
use Rattle.device_rows.specs.Ready.{is_same_state}
use Rattle.device_rows.specs.Rows.{target_in}
use Rattle.device_rows.specs.declared.entry.ErrorEntry.{ErrorEntry}
use Rattle.device_rows.specs.declared.entry.ErrorEntry.TheVariants.{Request as LostRequest, Result as LostResult, Buffer as LostBuffer, Device as LostDevice}
use Rattle.hal_device_model.specs.Calls.{after_delivery, after_error, after_exposure, after_failed_return, after_part, configure_error, configured, end_error, ended, error_in, exposure_in, after_fill, flush_error, initialize_error, initialized, may_deliver, may_fill, may_return_failed, part_in, request_error, requested_with, settings_of, close_begun, flush_begun}
use Rattle.hal_device_model.specs.State.{HalDeviceState}
use Rattle.hal_device_model.specs.declared.error.CallError.{CallError}
use Rattle.hal_device_model.specs.declared.error.CallError.TheVariants.{InvalidArgument, NoDevice, WrongSequence, NoMemory, Busy}
use Rattle.hal_model.specs.Words.{targets_of}
use Rattle.hal_model.specs.declared.event.ErrorName.{ErrorName}
use Rattle.hal_model.specs.declared.event.HalError.{HalError}
use Rattle.hal_model.specs.declared.event.HalError.TheVariants.{NoDevice as HalNoDevice, Other}
use Rattle.hal_model.specs.declared.event.HalEvent.{HalEvent}
use Rattle.hal_model.specs.declared.event.HalEvent.TheVariants.{OpenBegin, OpenOk, InitBegin, InitOk, InitError, ConfigureBegin, ConfigureOk, ConfigureError, RequestBegin, RequestOk, RequestError, Shutter, ErrorRequest, ErrorResult, ErrorBuffer, ErrorDevice, Results, FlushBegin, FlushOk, FlushError, CloseBegin}
use Rattle.hal_model.specs.declared.event.HalFence.{HalFence}
use Rattle.hal_model.specs.declared.event.HalFence.TheVariants.{Absent as NoFence, Number}
use Rattle.hal_model.specs.declared.event.HalTarget.{HalTarget}
use Rattle.hal_model.specs.declared.event.Pack.TheVariants.{Entries}
use Rattle.hal_model.specs.declared.event.Status.TheVariants.{Filled as Okay, Failed as Faulty}
use Rattle.hal_model.specs.Hal.{gives_back, most_from, streams_from}

-- the calls of the device: those of the framework, and the steps that whoever runs the device asks for
pub data HalCall : Type 0 where
  Initialize : HalCall
  Configure : List StreamSpec → HalCall
  Request : ℕ → Option Settings → List HalTarget → HalCall
  Expose : ℕ → HalCall
  SendPart : ℕ → HalCall
  Fill : ℕ → StreamIx → HalCall
  Deliver : ℕ → StreamIx → ℕ → HalCall
  TellError : ℕ → HalCall
  ReturnFailed : ℕ → StreamIx → HalCall
  BeginFlush : HalCall
  EndFlush : HalCall
  BeginClose : HalCall

-- ---- the state after a call

abbrev pub unless : Option CallError → HalDeviceState → HalDeviceState → HalDeviceState
unless None after before = after
unless (Some error) after before = before

abbrev pub where_may : Bool → HalDeviceState → HalDeviceState → HalDeviceState
where_may may after before = if may then after else before

abbrev pub after_call : HalCall → HalDeviceState → HalDeviceState
after_call Initialize state = unless (initialize_error state) (initialized state) state
after_call (Configure specs) state = unless (configure_error specs state) (configured specs state) state
after_call (Request n settings targets) state =
    unless (request_error n settings targets state)
    (requested_with n (settings_of settings state.last) targets state) state
after_call (Expose time) state = after_exposure time state
after_call (SendPart n) state = after_part n state
after_call (Fill n s) state = where_may (may_fill n s.0 state) (after_fill n s state) state
after_call (Deliver n s room) state = where_may (may_deliver n s.0 room state) (after_delivery n s state) state
after_call (TellError n) state = after_error n state
after_call (ReturnFailed n s) state =
    where_may (may_return_failed n s.0 state) (after_failed_return n s state) state
after_call BeginFlush state = unless (flush_error state) (flush_begun state) state
after_call EndFlush state = unless (end_error state) (ended state) state
after_call BeginClose state = close_begun state

abbrev pub state_after : HalDeviceState → List HalCall → HalDeviceState
state_after state [] = state
state_after state (call ∷ calls) = after_call call (state_after state calls)

-- ---- the events of a call

-- the names of the errors: EINVAL, ENOSYS, ENOMEM, EAGAIN
abbrev pub name : ℕ → ℕ → ℕ → ℕ → ℕ → ErrorName
name b c d e f = record { count = 6; letters = 69 ∷ b ∷ c ∷ d ∷ e ∷ f ∷ 0 ∷ 0 ∷ 0 ∷ 0 ∷ 0 ∷ 0 ∷ 0 ∷ 0 ∷ 0 ∷ [] }

abbrev pub hal_error : CallError → HalError
hal_error InvalidArgument = Other (name 73 78 86 65 76)
hal_error NoDevice = HalNoDevice
hal_error WrongSequence = Other (name 78 79 83 89 83)
hal_error NoMemory = Other (name 78 79 77 69 77)
hal_error Busy = Other (name 65 71 65 73 78)

-- a call's begin and end; nothing where it has to wait
abbrev pub ends_with : HalEvent → (HalError → HalEvent) → Option CallError → HalEvent
ends_with ok refused None = ok
ends_with ok refused (Some error) = refused (hal_error error)

abbrev pub called : HalEvent → HalEvent → (HalError → HalEvent) → Option CallError → List HalEvent
called begins ok refused (Some Busy) = []
called begins ok refused error = ends_with ok refused error ∷ begins ∷ []

-- a flush begins, and ends once no row is left
abbrev pub flush_begin_of : Option CallError → List HalEvent
flush_begin_of None = FlushBegin ∷ []
flush_begin_of (Some Busy) = []
flush_begin_of (Some error) = FlushError (hal_error error) ∷ FlushBegin ∷ []

abbrev pub flush_end_of : Option CallError → List HalEvent
flush_end_of None = FlushOk ∷ []
flush_end_of (Some error) = []

abbrev pub is_no_settings : Option Settings → Bool
is_no_settings None = true
is_no_settings (Some settings) = false

abbrev pub when : Bool → HalEvent → List HalEvent
when may event = if may then event ∷ [] else []

abbrev pub shutter_of : Option RowView → ℕ → List HalEvent
shutter_of (Some row) time = Shutter row.frame.0 time ∷ []
shutter_of None time = []

abbrev pub part_of : ℕ → Option (ℕ × PartialResult) → List HalEvent
part_of n (Some sent) = Results n sent.0 Entries [] false ∷ []
part_of n None = []

abbrev pub error_event : ErrorEntry → HalEvent
error_event (LostRequest n) = ErrorRequest n.0
error_event (LostResult n) = ErrorResult n.0
error_event (LostBuffer n s) = ErrorBuffer n.0 (Some s.0)
error_event LostDevice = ErrorDevice

abbrev pub error_of : Option ErrorEntry → List HalEvent
error_of (Some error) = error_event error ∷ []
error_of None = []

-- the good buffer of a target comes back
abbrev pub good_of : ℕ → ℕ → Option TargetView → List HalEvent
good_of n s (Some target) = gives_back n s target.buffer.0 Okay NoFence ∷ []
good_of n s None = []

-- the acquire fence with which buffer b came
abbrev pub fence_from : Option ℕ → HalFence
fence_from (Some f) = Number f
fence_from None = NoFence

abbrev pub fence_in : Option HalTarget → HalFence
fence_in (Some t) = fence_from t.fence
fence_in None = NoFence

abbrev pub acquire_fence_of : ℕ → ℕ → List HalEvent → HalFence
acquire_fence_of n b past = fence_in (find (λ t. t.buffer == b) (targets_of n past))

-- a failed one comes back: with its acquire fence where nobody waited for that, as no stage had the buffer
abbrev pub failed_of : ℕ → ℕ → Option TargetView → List HalEvent → List HalEvent
failed_of n s (Some target) past =
    gives_back n s target.buffer.0 Faulty
    (if is_same_state target.state Waiting then acquire_fence_of n target.buffer.0 past else NoFence) ∷ []
failed_of n s None past = []

abbrev pub events_of : HalCall → HalDeviceState → List HalEvent → List HalEvent
events_of Initialize state past = called InitBegin InitOk (λ error. InitError error) (initialize_error state)
events_of (Configure specs) state past =
    called (ConfigureBegin None (streams_from 0 specs)) (ConfigureOk (most_from state.profile 0 specs))
    (λ error. ConfigureError error) (configure_error specs state)
events_of (Request n settings targets) state past =
    called (RequestBegin n (is_no_settings settings) targets false false) (RequestOk n) (λ error. RequestError n error)
    (request_error n settings targets state)
events_of (Expose time) state past = shutter_of (exposure_in state) time
events_of (SendPart n) state past = part_of n (part_in n state)
events_of (Fill n s) state past = []
events_of (Deliver n s room) state past =
    if may_deliver n s.0 room state then good_of n s.0 (target_in n s.0 state.device.rows) else []
events_of (TellError n) state past = error_of (error_in n state)
events_of (ReturnFailed n s) state past =
    if may_return_failed n s.0 state then failed_of n s.0 (target_in n s.0 state.device.rows) past else []
events_of BeginFlush state past = flush_begin_of (flush_error state)
events_of EndFlush state past = flush_end_of (end_error state)
events_of BeginClose state past = CloseBegin ∷ []

-- what stands after the calls since the device was opened
abbrev pub log_of : HalDeviceState → List HalCall → List HalEvent
log_of state [] = OpenOk ∷ []
log_of state (call ∷ calls) = events_of call (state_after state calls) (log_of state calls) ++ log_of state calls

-- the log as a whole
abbrev pub whole_log : HalDeviceState → List HalCall → List HalEvent
whole_log state calls = log_of state calls ++ (OpenBegin ∷ [])
