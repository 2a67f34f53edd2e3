use Rattle.std.specs.Prelude.{ℕ, ◌==◌, ◌+◌, Bool, true, false, ◌&&◌, ◌||◌, not, List, [], ◌∷◌, Option, Some, None, nat_le}
use Rattle.cam_types.specs.Metadata.{part_at}
use Rattle.cam_types.specs.declared.partial_result.PartialResult.{PartialResult}
use Rattle.cam_types.specs.declared.partial_result.PartialResult.TheVariants.{Look, Light, Time}
use Rattle.cam_types.specs.declared.script.Script.{Script}
use Rattle.trace_model.specs.declared.entry.Entry.{Entry}
use Rattle.trace_model.specs.Faults.{request_fault, result_fault, device_fault}
use Rattle.trace_model.specs.Frames.{each_earlier, is_sent, has_shutter, has_error, has_error_request, settings_of, shutter_time}
use Rattle.trace_model.specs.Open.{has_error_result, is_metadata_ended}
use Rattle.trace_model.specs.Partial.{partial_count}
use Rattle.trace_model.specs.Shutter.{next_time}
use Rattle.trace_model.specs.Stopping.{is_stopping}
use Rattle.rule_conditions.specs.declared.condition.Condition.{Condition}
use Rattle.rule_conditions.specs.declared.condition.Condition.TheVariants.{ShutterOfSentFrame, ShutterOfFreshFrame, ShutterInOrder, ShutterNothingStops, ShutterWithoutDeviceFault, ShutterTime, PartialBehindShutter, PartialNextNumber, PartialOfFrame, PartialWithoutError, PartialWithoutRequestFault, LastPartWithoutResultFault, LastPartInOrder}

-- The conditions of a shutter and of a partial result (docs/CONTRACT.md, D11 and D12; camera3.h,
-- camera3_shutter_msg and camera3_capture_result).

abbrev pub shutter_conditions : List Condition
shutter_conditions =
    ShutterOfSentFrame ∷ ShutterOfFreshFrame ∷ ShutterInOrder ∷ ShutterNothingStops ∷ ShutterWithoutDeviceFault
    ∷ ShutterTime ∷ []

abbrev pub shutter_holds : Condition → Script → List Entry → ℕ → ℕ → Bool
shutter_holds ShutterOfSentFrame script past n time = is_sent n past
shutter_holds ShutterOfFreshFrame script past n time = not (has_shutter n past) && not (has_error n past)
shutter_holds ShutterInOrder script past n time =
    each_earlier n (λ m. has_shutter m past || has_error_request m past) past
shutter_holds ShutterNothingStops script past n time = not (is_stopping past)
shutter_holds ShutterWithoutDeviceFault script past n time = not (device_fault script n)
shutter_holds ShutterTime script past n time = time == next_time script past
shutter_holds _ script past n time = true

-- ---- partial results

abbrev pub partial_conditions : List Condition
partial_conditions =
    PartialBehindShutter ∷ PartialNextNumber ∷ PartialOfFrame ∷ PartialWithoutError ∷ PartialWithoutRequestFault
    ∷ LastPartWithoutResultFault ∷ LastPartInOrder ∷ []

abbrev pub is_same_partial_result : PartialResult → PartialResult → Bool
is_same_partial_result (Look p l) (Look q m) = (p == q) && (l == m)
is_same_partial_result (Light e i) (Light f j) = (e == f) && (i == j)
is_same_partial_result (Time t) (Time u) = t == u
is_same_partial_result _ _ = false

-- the part is part k of frame n, whose shutter was at the time, if it had one
abbrev pub is_part_of : Script → List Entry → ℕ → ℕ → PartialResult → Option ℕ → Bool
is_part_of script past n k part (Some time) = is_same_partial_result part (part_at k (settings_of script past n) time)
is_part_of script past n k part None = true

abbrev pub partial_holds : Condition → Script → List Entry → ℕ → ℕ → PartialResult → Bool
partial_holds PartialBehindShutter script past n k part = has_shutter n past
partial_holds PartialNextNumber script past n k part = (k == partial_count n past + 1) && nat_le k 3
partial_holds PartialOfFrame script past n k part = is_part_of script past n k part (shutter_time n past)
partial_holds PartialWithoutError script past n k part = not (has_error_request n past) && not (has_error_result n past)
partial_holds PartialWithoutRequestFault script past n k part = not (request_fault script n)
partial_holds LastPartWithoutResultFault script past n k part = not (k == 3) || not (result_fault script n)
partial_holds LastPartInOrder script past n k part =
    not (k == 3) || each_earlier n (λ m. is_metadata_ended m past) past
partial_holds _ script past n k part = true
