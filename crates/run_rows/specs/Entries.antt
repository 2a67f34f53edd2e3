use Rattle.std.specs.Prelude.{ℕ, Bool, ◌&&◌, not, Option, Some, None, List, [], ◌∷◌, if◌then◌else◌}
use Rattle.cam_types.specs.declared.number.FenceNo.{FenceNo}
use Rattle.cam_types.specs.declared.partial_result.PartialResult.{PartialResult}
use Rattle.cam_types.specs.declared.row.RowView.{RowView}
use Rattle.cam_types.specs.declared.row.TargetState.TheVariants.{Waiting}
use Rattle.cam_types.specs.declared.row.TargetView.{TargetView}
use Rattle.trace_model.specs.declared.entry.Entry.{Entry}
use Rattle.trace_model.specs.declared.entry.Entry.TheVariants.{Shutter, Partial, Filled, Failed, ErrorRequest, ErrorResult, ErrorBuffer, ErrorDevice, Early, Late}
use Rattle.device_rows.specs.declared.entry.ErrorEntry.{ErrorEntry}
use Rattle.device_rows.specs.declared.entry.ErrorEntry.TheVariants.{Request, Result, Buffer, Device}
use Rattle.device_rows.specs.Ready.{is_passed, is_same_state}

-- The entries that the device's steps add, by what the rows say.

-- the shutter of a row's frame, at a time
abbrev pub shutter_entry : ℕ → RowView → Entry
shutter_entry time row = Shutter row.frame time

-- the part of frame n with its number
abbrev pub part_entry : ℕ → (ℕ × PartialResult) → Entry
part_entry n part = Partial (record { 0 = n }) part.0 part.1

-- the buffer with its picture: it needs no fence
abbrev pub filled_entry : List ℕ → ℕ → ℕ → TargetView → Entry
filled_entry digest n s target = Filled (record { 0 = n }) (record { 0 = s }) target.buffer None digest

-- the buffer without it, and the device fence that will say when it is there
abbrev pub early_entry : ℕ → ℕ → ℕ → TargetView → Entry
early_entry fence n s target = Early (record { 0 = n }) (record { 0 = s }) target.buffer (record { 0 = fence })

-- the fence of a failed buffer: the acquire fence, where no stage took the buffer and nobody waited for the fence yet
abbrev pub failed_fence : (ℕ → Bool) → TargetView → Option FenceNo
failed_fence signalled target =
    if is_same_state target.state Waiting && not (is_passed signalled target.fence) then target.fence else None

-- the buffer in error
abbrev pub failed_entry : (ℕ → Bool) → ℕ → ℕ → TargetView → Entry
failed_entry signalled n s target =
    Failed (record { 0 = n }) (record { 0 = s }) target.buffer (failed_fence signalled target)

-- the error
abbrev pub error_entry : ErrorEntry → Entry
error_entry (Request n) = ErrorRequest n
error_entry (Result n) = ErrorResult n
error_entry (Buffer n s) = ErrorBuffer n s
error_entry Device = ErrorDevice

-- the signal of the buffer's device fence: it has one at most
abbrev pub finish_entry : List ℕ → List ℕ → Option Entry
finish_entry digest (d ∷ []) = Some (Late (record { 0 = d }) digest)
finish_entry digest _ = None
