use Rattle.std.specs.Prelude.{ℕ, Bool, ◌&&◌, ◌||◌, not, List, Option, Some, None, find, if◌then◌else◌}
use Rattle.cam_types.specs.declared.script.Script.{Script}
use Rattle.trace_model.specs.declared.entry.Entry.{Entry}
use Rattle.trace_model.specs.declared.entry.Entry.TheVariants.{Filled, Early, Late}
use Rattle.trace_model.specs.declared.entry.Sent.{Sent}
use Rattle.trace_model.specs.Entry.{is_early_with}
use Rattle.trace_model.specs.Faults.{request_fault, buffer_fault}
use Rattle.trace_model.specs.Fence.{is_late, is_passed}
use Rattle.trace_model.specs.Frames.{each_earlier, has_target, target_of, has_shutter, has_error_request}
use Rattle.trace_model.specs.Numbers.{next_early}
use Rattle.trace_model.specs.Open.{has_error_buffer, is_returned}
use Rattle.trace_model.specs.Picture.{digest_of}
use Rattle.trace_model.specs.Place.{is_at_device_by}

-- When a buffer may come back with its picture, or early and its picture later (camera3.h, process_capture_result:
-- buffers of a stream in the order of their requests; camera3_stream_buffer.acquire_fence: waited for before the buffer
-- is written).

-- frame m doesn't hold later buffers of stream s back: its buffer came back, or its error is announced
abbrev pub lets_pass : List Entry → ℕ → ℕ → Bool
lets_pass past s m =
    not (has_target m s past) || (is_returned m s past || (has_error_buffer m s past || has_error_request m past))

-- nothing of the script or of the trace says that frame n's buffer for stream s fails
abbrev pub is_sound : Script → List Entry → ℕ → ℕ → Bool
is_sound script past n s =
    (not (request_fault script n) && not (buffer_fault script n s))
    && (not (has_error_request n past) && not (has_error_buffer n s past))

abbrev pub may_deliver : Script → List Entry → ℕ → ℕ → Sent → Bool
may_deliver script past n s t =
    (is_at_device_by n s t.buffer.0 past && (has_shutter n past && is_sound script past n s))
    && (is_passed t.fence past && each_earlier n (lets_pass past s) past)

abbrev pub filled_of : Script → List Entry → ℕ → ℕ → Option Sent → Option Entry
filled_of script past n s (Some t) =
    if may_deliver script past n s t
    then Some (Filled (record { 0 = n }) (record { 0 = s }) t.buffer None (digest_of script past n s)) else None
filled_of script past n s None = None

-- the filled buffer of frame n for stream s that is due; it needs no fence, and the digest is its picture's
abbrev pub filled_due : Script → List Entry → ℕ → ℕ → Option Entry
filled_due script past n s = filled_of script past n s (target_of n s past)

-- ---- early returns (our own choice, which the contract's fences allow: camera3.h,
-- camera3_stream_buffer.release_fence)

abbrev pub early_of : Script → List Entry → ℕ → ℕ → Option Sent → Option Entry
early_of script past n s (Some t) =
    if script.early && may_deliver script past n s t
    then Some (Early (record { 0 = n }) (record { 0 = s }) t.buffer (record { 0 = next_early past })) else None
early_of script past n s None = None

-- the early return of frame n's buffer for stream s that is due: as a filled one, in a script that has them, and with a
-- device fence of the next number
abbrev pub early_due : Script → List Entry → ℕ → ℕ → Option Entry
early_due script past n s = early_of script past n s (target_of n s past)

abbrev pub late_of : Script → List Entry → ℕ → Option Entry → Option Entry
late_of script past d (Some (Early n s _ _)) =
    if is_late d past then None else Some (Late (record { 0 = d }) (digest_of script past n.0 s.0))
late_of script past d _ = None

-- the signal of device fence d that is due: a buffer came back early with it, and the digest is its picture's
abbrev pub late_due : Script → List Entry → ℕ → Option Entry
late_due script past d = late_of script past d (find (is_early_with d) past)
