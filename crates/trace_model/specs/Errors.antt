use Rattle.std.specs.Prelude.{ℕ, Bool, ◌&&◌, ◌||◌, not, List, Option, Some, None, if◌then◌else◌}
use Rattle.std.specs.List.{list_any}
use Rattle.cam_types.specs.declared.number.FenceNo.{FenceNo}
use Rattle.cam_types.specs.declared.script.Script.{Script}
use Rattle.trace_model.specs.declared.entry.Entry.{Entry}
use Rattle.trace_model.specs.declared.entry.Entry.TheVariants.{Failed, ErrorRequest, ErrorResult, ErrorBuffer, ErrorDevice}
use Rattle.trace_model.specs.declared.entry.Sent.{Sent}
use Rattle.trace_model.specs.Faults.{request_fault, result_fault, buffer_fault, device_fault}
use Rattle.trace_model.specs.Fence.{is_passed}
use Rattle.trace_model.specs.Frames.{frames, each_earlier, has_target, target_of, has_shutter, has_error_request}
use Rattle.trace_model.specs.Open.{is_open, is_metadata_ended, is_returned, has_error_buffer, has_something}
use Rattle.trace_model.specs.Place.{is_at_device_by}
use Rattle.trace_model.specs.Shutter.{is_next_for_sensor}
use Rattle.trace_model.specs.Stopping.{is_stopping, is_stopped}

-- The errors (camera3.h, S6 and flush): a capture that failed whole has ERROR_REQUEST and no other; what is missing of
-- a capture of which something came is named by ERROR_RESULT and ERROR_BUFFER. Each has a fault of the script as its
-- cause, or a flush, a disconnect or a device failure after the frame was sent.

-- the whole capture failed: nothing of it came
abbrev pub may_fail_request : Script → List Entry → ℕ → Bool
may_fail_request script past n =
    (is_open n past && not (has_something n past))
    && ((request_fault script n && has_shutter n past) || is_stopped n past)

-- a part of the capture may be named as missing: it began, and it isn't one that fails whole
abbrev pub may_fail_in_part : Script → List Entry → ℕ → Bool
may_fail_in_part script past n = has_shutter n past && (not (request_fault script n) || is_stopped n past)

-- the frame was stopped after something of it came
abbrev pub is_cut_short : List Entry → ℕ → Bool
is_cut_short past n = is_stopped n past && has_something n past

-- the metadata that didn't come won't come; these errors keep the order of frames
abbrev pub may_fail_result : Script → List Entry → ℕ → Bool
may_fail_result script past n =
    (may_fail_in_part script past n && not (is_metadata_ended n past))
    && (each_earlier n (λ m. is_metadata_ended m past) past && (result_fault script n || is_cut_short past n))

-- the buffer for stream s won't be filled
abbrev pub may_fail_buffer : Script → List Entry → ℕ → ℕ → Bool
may_fail_buffer script past n s =
    (has_target n s past && (may_fail_in_part script past n && not (has_error_request n past)))
    && ((not (has_error_buffer n s past) && not (is_returned n s past))
    && (buffer_fault script n s || is_cut_short past n))

-- the device fails where frame n would have its shutter
abbrev pub may_fail_device_at : Script → List Entry → ℕ → Bool
may_fail_device_at script past n = device_fault script n && is_next_for_sensor n past

abbrev pub may_fail_device : Script → List Entry → Bool
may_fail_device script past = not (is_stopping past) && list_any (may_fail_device_at script past) (frames past)

abbrev pub error_request_due : Script → List Entry → ℕ → Option Entry
error_request_due script past n =
    if may_fail_request script past n then Some (ErrorRequest (record { 0 = n })) else None

abbrev pub error_result_due : Script → List Entry → ℕ → Option Entry
error_result_due script past n = if may_fail_result script past n then Some (ErrorResult (record { 0 = n })) else None

abbrev pub error_buffer_due : Script → List Entry → ℕ → ℕ → Option Entry
error_buffer_due script past n s =
    if may_fail_buffer script past n s then Some (ErrorBuffer (record { 0 = n }) (record { 0 = s })) else None

abbrev pub error_device_due : Script → List Entry → Option Entry
error_device_due script past = if may_fail_device script past then Some ErrorDevice else None

-- ---- failed buffers

-- the fence of a failed buffer: the acquire fence, if nobody waited for it yet (our own choice of the two that the
-- contract allows)
abbrev pub fence_left : Option FenceNo → List Entry → Option FenceNo
fence_left fence past = if is_passed fence past then None else fence

abbrev pub failed_of : List Entry → ℕ → ℕ → Option Sent → Option Entry
failed_of past n s (Some t) =
    if is_at_device_by n s t.buffer.0 past && (has_error_request n past || has_error_buffer n s past)
    then Some (Failed (record { 0 = n }) (record { 0 = s }) t.buffer (fence_left t.fence past)) else None
failed_of past n s None = None

-- the failed buffer of frame n for stream s that is due: its error is announced
abbrev pub failed_due : List Entry → ℕ → ℕ → Option Entry
failed_due past n s = failed_of past n s (target_of n s past)
