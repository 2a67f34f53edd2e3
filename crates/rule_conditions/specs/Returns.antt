use Rattle.std.specs.Prelude.{ℕ, ◌==◌, Bool, true, false, ◌&&◌, ◌||◌, not, List, [], ◌∷◌, Option, Some, None, find, is_some}
use Rattle.std.specs.List.{list_any}
use Rattle.std.specs.Str.{bytes_eq}
use Rattle.cam_types.specs.declared.number.FenceNo.{FenceNo}
use Rattle.cam_types.specs.declared.script.Script.{Script}
use Rattle.trace_model.specs.declared.entry.Entry.{Entry}
use Rattle.trace_model.specs.declared.entry.Entry.TheVariants.{Early}
use Rattle.trace_model.specs.declared.entry.Sent.{Sent}
use Rattle.trace_model.specs.Entry.{is_early_with}
use Rattle.trace_model.specs.Errors.{fence_left}
use Rattle.trace_model.specs.Faults.{request_fault, buffer_fault}
use Rattle.trace_model.specs.Fence.{fence_in, is_late, is_passed, is_same_fence}
use Rattle.trace_model.specs.Filled.{lets_pass}
use Rattle.trace_model.specs.Frames.{each_earlier, target_of, has_shutter, has_error_request}
use Rattle.trace_model.specs.Numbers.{next_early}
use Rattle.trace_model.specs.Open.{has_error_buffer}
use Rattle.trace_model.specs.Picture.{digest_of}
use Rattle.trace_model.specs.Place.{is_at_device_by}
use Rattle.rule_conditions.specs.declared.condition.Condition.{Condition}
use Rattle.rule_conditions.specs.declared.condition.Condition.TheVariants.{DeliveryAtDevice, DeliveryBehindShutter, DeliveryWithoutFault, DeliveryWithoutError, DeliveryBehindFence, DeliveryInOrder, PictureOfFrame, EarlyInScript, EarlyNextFence, LateOfEarlyBuffer, LateToldOnce, LatePictureOfFrame, FailedAtDevice, FailedBehindError, FailedFence}

-- The conditions of a buffer that comes back, with its picture, early or in error, and of a picture that comes late
-- (docs/CONTRACT.md, D13 and D14; camera3.h, process_capture_result and camera3_stream_buffer).

-- frame n was sent with buffer b for the stream of the target
abbrev pub has_buffer : Option Sent → ℕ → Bool
has_buffer (Some t) b = t.buffer.0 == b
has_buffer None b = false

-- buffer b is the one that frame n was sent with for stream s, and is at the device by that send
abbrev pub is_out_for : List Entry → ℕ → ℕ → ℕ → Bool
is_out_for past n s b = has_buffer (target_of n s past) b && is_at_device_by n s b past

-- the acquire fence of frame n's buffer for stream s
abbrev pub fence_for : List Entry → ℕ → ℕ → Option FenceNo
fence_for past n s = fence_in (target_of n s past)

-- what holds of a buffer that comes back good, with its picture or early
abbrev pub delivery_holds : Condition → Script → List Entry → ℕ → ℕ → ℕ → Bool
delivery_holds DeliveryAtDevice script past n s b = is_out_for past n s b
delivery_holds DeliveryBehindShutter script past n s b = has_shutter n past
delivery_holds DeliveryWithoutFault script past n s b = not (request_fault script n) && not (buffer_fault script n s)
delivery_holds DeliveryWithoutError script past n s b =
    not (has_error_request n past) && not (has_error_buffer n s past)
delivery_holds DeliveryBehindFence script past n s b = is_passed (fence_for past n s) past
delivery_holds DeliveryInOrder script past n s b = each_earlier n (lets_pass past s) past
delivery_holds _ script past n s b = true

abbrev pub filled_conditions : List Condition
filled_conditions =
    DeliveryAtDevice ∷ DeliveryBehindShutter ∷ DeliveryWithoutFault ∷ DeliveryWithoutError ∷ DeliveryBehindFence
    ∷ DeliveryInOrder ∷ PictureOfFrame ∷ []

-- a buffer with its picture has no fence that is left to wait for
abbrev pub filled_holds : Condition → Script → List Entry → ℕ → ℕ → ℕ → Option FenceNo → List ℕ → Bool
filled_holds DeliveryBehindFence script past n s b f digest = is_passed (fence_for past n s) past && not (is_some f)
filled_holds PictureOfFrame script past n s b f digest = bytes_eq digest (digest_of script past n s)
filled_holds c script past n s b f digest = delivery_holds c script past n s b

-- ---- early returns

abbrev pub early_conditions : List Condition
early_conditions =
    DeliveryAtDevice ∷ DeliveryBehindShutter ∷ DeliveryWithoutFault ∷ DeliveryWithoutError ∷ DeliveryBehindFence
    ∷ DeliveryInOrder ∷ EarlyInScript ∷ EarlyNextFence ∷ []

abbrev pub early_holds : Condition → Script → List Entry → ℕ → ℕ → ℕ → ℕ → Bool
early_holds EarlyInScript script past n s b d = script.early
early_holds EarlyNextFence script past n s b d = d == next_early past
early_holds c script past n s b d = delivery_holds c script past n s b

-- ---- and their pictures

abbrev pub late_conditions : List Condition
late_conditions = LateOfEarlyBuffer ∷ LateToldOnce ∷ LatePictureOfFrame ∷ []

-- the digest is that of the picture of the frame and the stream that came back early
abbrev pub is_late_picture : Script → List Entry → List ℕ → Option Entry → Bool
is_late_picture script past digest (Some (Early n s _ _)) = bytes_eq digest (digest_of script past n.0 s.0)
is_late_picture script past digest _ = false

abbrev pub late_holds : Condition → Script → List Entry → ℕ → List ℕ → Bool
late_holds LateOfEarlyBuffer script past d digest = list_any (is_early_with d) past
late_holds LateToldOnce script past d digest = not (is_late d past)
late_holds LatePictureOfFrame script past d digest = is_late_picture script past digest (find (is_early_with d) past)
late_holds _ script past d digest = true

-- ---- buffers in error

abbrev pub failed_conditions : List Condition
failed_conditions = FailedAtDevice ∷ FailedBehindError ∷ FailedFence ∷ []

abbrev pub failed_holds : Condition → List Entry → ℕ → ℕ → ℕ → Option FenceNo → Bool
failed_holds FailedAtDevice past n s b f = is_out_for past n s b
failed_holds FailedBehindError past n s b f = has_error_request n past || has_error_buffer n s past
failed_holds FailedFence past n s b f = is_same_fence f (fence_left (fence_for past n s) past)
failed_holds _ past n s b f = true
