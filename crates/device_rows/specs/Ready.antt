use Rattle.std.specs.Prelude.{ℕ, ◌==◌, ◌+◌, Bool, true, false, ◌&&◌, ◌||◌, not, if◌then◌else◌, List, find, Option, Some, None, is_some}
use Rattle.cam_types.specs.Metadata.{part_at}
use Rattle.cam_types.specs.Rows.{awaits_metadata, is_open}
use Rattle.cam_types.specs.declared.number.FenceNo.{FenceNo}
use Rattle.cam_types.specs.declared.partial_result.PartialResult.{PartialResult}
use Rattle.cam_types.specs.declared.row.RowView.{RowView}
use Rattle.cam_types.specs.declared.row.SensorPlace.{SensorPlace}
use Rattle.cam_types.specs.declared.row.SensorPlace.TheVariants.{Out as SensorOut, Home}
use Rattle.cam_types.specs.declared.row.TargetState.{TargetState}
use Rattle.cam_types.specs.declared.row.TargetState.TheVariants.{Waiting, Out, Filled, EarlyFilled}
use Rattle.cam_types.specs.declared.row.TargetView.{TargetView}
use Rattle.cam_types.specs.declared.script.Fault.{Fault}
use Rattle.device_rows.specs.Next.{next_due}
use Rattle.device_rows.specs.declared.entry.ErrorEntry.{ErrorEntry}
use Rattle.device_rows.specs.declared.entry.ErrorEntry.TheVariants.{Device}
use Rattle.device_rows.specs.Due.{verdict_of}
use Rattle.device_rows.specs.Order.{each_below, holds_back}
use Rattle.device_rows.specs.Faults.{fault_of_buffer, fault_of_device, fault_of_request, fault_of_result, faults_of}
use Rattle.device_rows.specs.Rows.{row_at, target_at}

-- Which step of the device is ready, read from the rows: as the rules ask of it, in their part on rows.

-- ---- the sensor (camera3.h, camera3_shutter_msg)

-- the frame that the sensor takes next: the first without a shutter that didn't fail whole
abbrev pub next_exposure : List RowView → Option RowView
next_exposure rows = find (λ row. not (is_some row.shutter) && not row.request_error) rows

-- nothing stands against its exposure: no stop, and the device doesn't fail at it
abbrev pub may_expose : List Fault → RowView → Bool
may_expose faults row = not row.stopped && not (fault_of_device faults row.frame.0)

abbrev pub if_exposed : List Fault → Option RowView → Option RowView
if_exposed faults (Some row) = if may_expose faults row then Some row else None
if_exposed faults None = None

-- the row whose exposure may begin
abbrev pub shutter_row : List Fault → List RowView → Option RowView
shutter_row faults rows = if_exposed faults (next_exposure rows)

-- ---- metadata (camera3.h, camera3_capture_result.partial_result)

-- the metadata of each earlier frame has ended
abbrev pub may_end_metadata : List RowView → ℕ → Bool
may_end_metadata rows n = each_below n (λ row. not (awaits_metadata row)) rows

-- the last part waits for earlier frames, and doesn't come where the result has a fault
abbrev pub may_be_last : List Fault → List RowView → RowView → Bool
may_be_last faults rows row = not (fault_of_result faults row.frame.0) && may_end_metadata rows row.frame.0

-- the next part of the row may be sent
abbrev pub may_send_part : List Fault → List RowView → RowView → Bool
may_send_part faults rows row =
    (awaits_metadata row && not (fault_of_request faults row.frame.0))
    && (not (row.parts == 2) || may_be_last faults rows row)

abbrev pub part_with : List Fault → List RowView → RowView → Option ℕ → Option (ℕ × PartialResult)
part_with faults rows row (Some time) =
    if may_send_part faults rows row then Some (row.parts + 1, part_at (row.parts + 1) row.settings time) else None
part_with faults rows row None = None

abbrev pub partial_of : List Fault → List RowView → Option RowView → Option (ℕ × PartialResult)
partial_of faults rows (Some row) = part_with faults rows row row.shutter
partial_of faults rows None = None

-- the number of the part of frame n that may be sent, and what it says
abbrev pub next_part : List Fault → List RowView → ℕ → Option (ℕ × PartialResult)
next_part faults rows n = partial_of faults rows (row_at n rows)

-- ---- buffers (camera3.h, process_capture_result; camera3_stream_buffer, acquire_fence)

abbrev pub is_same_state : TargetState → TargetState → Bool
is_same_state Waiting Waiting = true
is_same_state Out Out = true
is_same_state Filled Filled = true
is_same_state EarlyFilled EarlyFilled = true
is_same_state _ _ = false

abbrev pub is_home : SensorPlace → Bool
is_home Home = true
is_home _ = false

abbrev pub is_sensor_out : SensorPlace → Bool
is_sensor_out SensorOut = true
is_sensor_out _ = false

-- neither the frame nor its buffer for the target has failed or will
abbrev pub is_sound : List Fault → RowView → TargetView → Bool
is_sound faults row target =
    (not (fault_of_request faults row.frame.0) && not (fault_of_buffer faults row.frame.0 target.stream.0))
    && (not row.request_error && not target.announced)

-- the acquire fence is none or passes the test
abbrev pub is_passed : (ℕ → Bool) → Option FenceNo → Bool
is_passed signalled (Some f) = signalled f.0
is_passed signalled None = true

abbrev pub passes_at : (TargetView → Bool) → Option TargetView → Bool
passes_at test (Some target) = test target
passes_at test None = false

-- the target of stream s in the row of a frame passes the test
abbrev pub target_passes : (RowView → TargetView → Bool) → ℕ → Option RowView → Bool
target_passes test s (Some row) = passes_at (test row) (target_at s row)
target_passes test s None = false

-- a stage may take the buffer: it waits, the readout is home, and the acquire fence is passed
abbrev pub may_fill : List Fault → (ℕ → Bool) → RowView → TargetView → Bool
may_fill faults signalled row target =
    (is_sound faults row target && is_same_state target.state Waiting)
    && (is_home row.sensor && is_passed signalled target.fence)

abbrev pub is_fill_ready : List Fault → (ℕ → Bool) → List RowView → ℕ → ℕ → Bool
is_fill_ready faults signalled rows n s = target_passes (may_fill faults signalled) s (row_at n rows)

-- the buffer may come back with its picture or early: the frame is exposed, and no earlier frame holds the stream back
abbrev pub may_return : List Fault → List RowView → RowView → TargetView → Bool
may_return faults rows row target =
    (is_sound faults row target && is_some row.shutter)
    && each_below row.frame.0 (λ other. not (holds_back target.stream.0 other)) rows

abbrev pub may_deliver : List Fault → List RowView → RowView → TargetView → Bool
may_deliver faults rows row target = is_same_state target.state Filled && may_return faults rows row target

abbrev pub is_delivery_ready : List Fault → List RowView → ℕ → ℕ → Bool
is_delivery_ready faults rows n s = target_passes (may_deliver faults rows) s (row_at n rows)

-- early: while a stage fills it
abbrev pub may_go_early : List Fault → List RowView → RowView → TargetView → Bool
may_go_early faults rows row target = is_same_state target.state Out && may_return faults rows row target

abbrev pub is_early_ready : List Fault → List RowView → ℕ → ℕ → Bool
is_early_ready faults rows n s = target_passes (may_go_early faults rows) s (row_at n rows)

-- the picture of a buffer that came back early is there
abbrev pub is_finish_ready : List RowView → ℕ → ℕ → Bool
is_finish_ready rows n s = target_passes (λ row target. is_same_state target.state EarlyFilled) s (row_at n rows)

-- ---- errors (camera3.h, S6 and flush)

abbrev pub is_failing : List Fault → ℕ → Option RowView → Bool
is_failing faults n (Some row) = (row.frame.0 == n) && (not row.stopped && fault_of_device faults n)
is_failing faults n None = false

-- the device fails at frame n, where its exposure would begin
abbrev pub fails_device_at : List Fault → List RowView → ℕ → Bool
fails_device_at faults rows n = is_failing faults n (next_exposure rows)

abbrev pub error_of : List Fault → List RowView → Option RowView → Option ErrorEntry
error_of faults rows (Some row) =
    next_due row (verdict_of row (faults_of faults row)) (may_end_metadata rows row.frame.0)
error_of faults rows None = None

-- the error that is due at frame n: the device's failure, else the next that the frame's verdict names
abbrev pub next_error : List Fault → List RowView → ℕ → Option ErrorEntry
next_error faults rows n = if fails_device_at faults rows n then Some Device else error_of faults rows (row_at n rows)

-- a buffer comes back in error: its frame failed whole or its error is announced, and neither the sensor nor a stage
-- has it
abbrev pub may_return_failed : RowView → TargetView → Bool
may_return_failed row target =
    (row.request_error || target.announced)
    && (not (is_sensor_out row.sensor) && (is_same_state target.state Waiting || is_same_state target.state Filled))

abbrev pub is_failed_return_ready : List RowView → ℕ → ℕ → Bool
is_failed_return_ready rows n s = target_passes may_return_failed s (row_at n rows)

-- ---- the end of a frame (camera3.h, process_capture_result: its metadata and all its buffers came back)

-- the row stands, and its frame isn't open any more
abbrev pub is_done : Option RowView → Bool
is_done (Some row) = not (is_open row)
is_done None = false

abbrev pub is_retire_ready : List RowView → ℕ → Bool
is_retire_ready rows n = is_done (row_at n rows)
