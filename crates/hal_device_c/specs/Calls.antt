-- What a call does to the device of a handle, and what it answers. None: the handle isn't open.
use Rattle.std.specs.Prelude.{◌≡◌, ℕ, ◌==◌, ℤ, pos, negsuc, Bool, false, ◌||◌, not, List, Option, Some, None, is_none, is_some, length, nat_lt, slice_get, if◌then◌else◌, ◌⊎◌}
use Rattle.std.specs.List.{list_all}
use Rattle.std.specs.Option.{option_map}
use Rattle.cam_types.specs.Profile.{is_profile}
use Rattle.device_rows.specs.Rows.{target_in}
use Rattle.hal_device.specs.Kept.{IsDelivered}
use Rattle.hal_device.specs.Ready.{ready_row}
use Rattle.hal_device.specs.Templates.{default_settings, template_error}
use Rattle.hal_device_c.specs.Answers.{answer_of, number_of, step_answer}
use Rattle.hal_device_c.specs.Records.{error_record, has_kind, part_record, profile_of, row_record, settings_record}
use Rattle.hal_device_c.specs.declared.records.DeliveredRecord.{DeliveredRecord}
use Rattle.hal_device_c.specs.declared.records.ErrorRecord.{ErrorRecord}
use Rattle.hal_device_c.specs.declared.records.FaultRecord.{FaultRecord}
use Rattle.hal_device_c.specs.declared.records.PartRecord.{PartRecord}
use Rattle.hal_device_c.specs.declared.records.ProfileRecord.{ProfileRecord}
use Rattle.hal_device_c.specs.declared.records.RowRecord.{RowRecord}
use Rattle.hal_device_c.specs.declared.records.SettingsRecord.{SettingsRecord}
use Rattle.hal_device_model.specs.Calls.{error_in, exposure_in, may_return_failed, part_in}
use Rattle.hal_device_model.specs.Log.{HalCall, after_call}
use Rattle.hal_device_model.specs.State.{HalDeviceState}
use Rattle.hal_device_model.specs.declared.error.CallError.{CallError}
use Rattle.hal_device_model.specs.declared.error.CallError.TheVariants.{InvalidArgument, NoDevice, NoMemory}

-- ---- a call on a handle

-- the device after a call; there is none on a handle that isn't open
abbrev pub after : HalCall → Option HalDeviceState → Option HalDeviceState
after call = option_map (after_call call)

-- the error that is due: ENODEV where the handle isn't open
abbrev pub due : (HalDeviceState → Option CallError) → Option HalDeviceState → Option CallError
due error_of None = Some NoDevice
due error_of (Some state) = error_of state

-- a call of the framework's answers the error that is due, else 0
abbrev pub answered : (HalDeviceState → Option CallError) → Option HalDeviceState → ℤ
answered error_of device = answer_of (due error_of device)

-- a step answers ENODEV, 0 where it was ready, else EAGAIN
abbrev pub stepped : (HalDeviceState → Bool) → Option HalDeviceState → ℤ
stepped may None = number_of NoDevice
stepped may (Some state) = step_answer (may state)

-- what is answered where memory is taken: as above, or want of memory
abbrev pub IsAnswer : Option CallError → ℤ → Type 0
IsAnswer error answer = (answer ≡ answer_of error) ⊎ (answer ≡ number_of NoMemory)

abbrev pub is_done : ℤ → Bool
is_done (pos n) = n == 0
is_done (negsuc n) = false

-- what a call tells: from an open device, where there is something to tell
abbrev pub told : {X : Type 0} → (HalDeviceState → Option X) → Option HalDeviceState → Option X
told tells None = None
told tells (Some state) = tells state

-- what stands behind a pointer of the caller's: what is told, else what stood there
abbrev pub or_kept : {X : Type 0} → Option X → X → X
or_kept (Some x) old = x
or_kept None old = old

-- ---- opening

-- at most 65,536 faults, each of a kind (our own choice)
abbrev pub are_bad_faults : List FaultRecord → Bool
are_bad_faults faults = nat_lt 65536 (length faults) || not (list_all has_kind faults)

abbrev pub open_error : ProfileRecord → List FaultRecord → Option HalDeviceState → Option CallError
open_error profile faults device =
    if is_some device || (are_bad_faults faults || not (is_profile (profile_of profile))) then Some InvalidArgument
    else None

abbrev pub close_answer : Option HalDeviceState → ℤ
close_answer None = number_of NoDevice
close_answer (Some state) = pos 0

-- ---- what the calls tell

abbrev pub settings_told : ℕ → HalDeviceState → Option SettingsRecord
settings_told t state =
    if is_none (template_error t state) then Some (settings_record (default_settings t)) else None

abbrev pub row_told : ℕ → HalDeviceState → Option RowRecord
row_told place state = option_map (λ row. row_record (ready_row state row)) (slice_get state.device.rows place)

-- so many frames aren't open
abbrev pub row_error : ℕ → HalDeviceState → Option CallError
row_error place state = if is_none (slice_get state.device.rows place) then Some InvalidArgument else None

abbrev pub exposure_told : HalDeviceState → Option ℕ
exposure_told state = option_map (λ row. row.frame.0) (exposure_in state)

abbrev pub part_told : ℕ → HalDeviceState → Option PartRecord
part_told n state = option_map part_record (part_in n state)

abbrev pub error_told : ℕ → HalDeviceState → Option ErrorRecord
error_told n state = option_map error_record (error_in n state)

-- the number of the buffer that comes back in error
abbrev pub buffer_told : ℕ → ℕ → HalDeviceState → Option ℕ
buffer_told n s state =
    if may_return_failed n s state then option_map (λ t. t.buffer.0) (target_in n s state.device.rows) else None

-- the memory shows the picture of frame n for stream s, and the record has its buffer's number and its digest
abbrev pub IsShownBy : ℕ → ℕ → Option HalDeviceState → List ℕ → DeliveredRecord → Type 0
IsShownBy n s None memory done = ⊥
IsShownBy n s (Some state) memory done =
    IsDelivered n s state memory (record { buffer = record { 0 = done.buffer }; digest = done.digest })
