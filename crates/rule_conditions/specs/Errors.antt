use Rattle.std.specs.Prelude.{ℕ, Bool, true, ◌||◌, not, List, [], ◌∷◌}
use Rattle.std.specs.List.{list_any}
use Rattle.cam_types.specs.declared.script.Script.{Script}
use Rattle.trace_model.specs.declared.entry.Entry.{Entry}
use Rattle.trace_model.specs.Errors.{may_fail_device_at}
use Rattle.trace_model.specs.Faults.{request_fault, result_fault, buffer_fault}
use Rattle.trace_model.specs.Frames.{frames, each_earlier, has_target, has_shutter, has_error_request}
use Rattle.trace_model.specs.Open.{is_open, is_metadata_ended, is_returned, has_error_buffer, has_something}
use Rattle.trace_model.specs.Stopping.{is_stopping, is_stopped}
use Rattle.rule_conditions.specs.declared.condition.Condition.{Condition}
use Rattle.rule_conditions.specs.declared.condition.Condition.TheVariants.{RequestErrorOfOpenFrame, RequestErrorOfBareFrame, RequestErrorHasCause, RequestErrorBehindShutter, ResultErrorBehindShutter, ResultErrorOfOpenMetadata, ResultErrorInOrder, ResultErrorHasCause, ResultErrorBehindSomething, BufferErrorOfTarget, BufferErrorBehindShutter, BufferErrorWithoutRequestError, BufferErrorToldOnce, BufferErrorOfMissingBuffer, BufferErrorHasCause, BufferErrorBehindSomething, PartErrorOfStoppedRequest, DeviceErrorNothingStops, DeviceErrorAtFault}

-- The conditions of the errors (docs/CONTRACT.md, D14; camera3.h, S6 and flush).

abbrev pub request_error_conditions : List Condition
request_error_conditions =
    RequestErrorOfOpenFrame ∷ RequestErrorOfBareFrame ∷ RequestErrorHasCause ∷ RequestErrorBehindShutter ∷ []

abbrev pub request_error_holds : Condition → Script → List Entry → ℕ → Bool
request_error_holds RequestErrorOfOpenFrame script past n = is_open n past
request_error_holds RequestErrorOfBareFrame script past n = not (has_something n past)
request_error_holds RequestErrorHasCause script past n = is_stopped n past || request_fault script n
request_error_holds RequestErrorBehindShutter script past n = is_stopped n past || has_shutter n past
request_error_holds _ script past n = true

-- where frame n has a request fault it fails whole, unless it was stopped
abbrev pub may_fail_partly : Script → List Entry → ℕ → Bool
may_fail_partly script past n = not (request_fault script n) || is_stopped n past

abbrev pub result_error_conditions : List Condition
result_error_conditions =
    ResultErrorBehindShutter ∷ ResultErrorOfOpenMetadata ∷ ResultErrorInOrder ∷ ResultErrorHasCause
    ∷ ResultErrorBehindSomething ∷ PartErrorOfStoppedRequest ∷ []

abbrev pub result_error_holds : Condition → Script → List Entry → ℕ → Bool
result_error_holds ResultErrorBehindShutter script past n = has_shutter n past
result_error_holds ResultErrorOfOpenMetadata script past n = not (is_metadata_ended n past)
result_error_holds ResultErrorInOrder script past n = each_earlier n (λ m. is_metadata_ended m past) past
result_error_holds ResultErrorHasCause script past n = result_fault script n || is_stopped n past
result_error_holds ResultErrorBehindSomething script past n = result_fault script n || has_something n past
result_error_holds PartErrorOfStoppedRequest script past n = may_fail_partly script past n
result_error_holds _ script past n = true

abbrev pub buffer_error_conditions : List Condition
buffer_error_conditions =
    BufferErrorOfTarget ∷ BufferErrorBehindShutter ∷ BufferErrorWithoutRequestError ∷ BufferErrorToldOnce
    ∷ BufferErrorOfMissingBuffer ∷ BufferErrorHasCause ∷ BufferErrorBehindSomething ∷ PartErrorOfStoppedRequest ∷ []

abbrev pub buffer_error_holds : Condition → Script → List Entry → ℕ → ℕ → Bool
buffer_error_holds BufferErrorOfTarget script past n s = has_target n s past
buffer_error_holds BufferErrorBehindShutter script past n s = has_shutter n past
buffer_error_holds BufferErrorWithoutRequestError script past n s = not (has_error_request n past)
buffer_error_holds BufferErrorToldOnce script past n s = not (has_error_buffer n s past)
buffer_error_holds BufferErrorOfMissingBuffer script past n s = not (is_returned n s past)
buffer_error_holds BufferErrorHasCause script past n s = buffer_fault script n s || is_stopped n past
buffer_error_holds BufferErrorBehindSomething script past n s = buffer_fault script n s || has_something n past
buffer_error_holds PartErrorOfStoppedRequest script past n s = may_fail_partly script past n
buffer_error_holds _ script past n s = true

abbrev pub device_error_conditions : List Condition
device_error_conditions = DeviceErrorNothingStops ∷ DeviceErrorAtFault ∷ []

abbrev pub device_error_holds : Condition → Script → List Entry → Bool
device_error_holds DeviceErrorNothingStops script past = not (is_stopping past)
device_error_holds DeviceErrorAtFault script past = list_any (may_fail_device_at script past) (frames past)
device_error_holds _ script past = true
