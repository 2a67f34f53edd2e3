-- An error is allowed where it meets its conditions.
use Rattle.std.proofs.Common.{◌≡◌, ◌↔◌, Bool, true, ◌&&◌, ◌||◌, not, List, Some, IsTrue, arith}
use Rattle.std.specs.List.{list_any, list_all}
use Rattle.cam_types.specs.declared.number.FrameNo.{FrameNo}
use Rattle.cam_types.specs.declared.number.StreamIx.{StreamIx}
use Rattle.cam_types.specs.declared.script.Script.{Script}
use Rattle.trace_model.specs.declared.entry.Entry.{Entry}
use Rattle.trace_model.specs.declared.entry.Entry.TheVariants.{ErrorRequest, ErrorResult, ErrorBuffer, ErrorDevice}
use Rattle.trace_model.specs.Errors.{error_buffer_due, error_device_due, error_request_due, error_result_due, may_fail_buffer, may_fail_device, may_fail_device_at, may_fail_request, may_fail_result}
use Rattle.trace_model.specs.Faults.{request_fault, result_fault, buffer_fault}
use Rattle.trace_model.specs.Frames.{each_earlier, frames, has_error_request, has_shutter, has_target}
use Rattle.trace_model.specs.Open.{has_error_buffer, has_something, is_metadata_ended, is_open, is_returned}
use Rattle.trace_model.specs.Stopping.{is_stopped, is_stopping}
use Rattle.rule_conditions.specs.Errors.{buffer_error_conditions, buffer_error_holds, device_error_conditions, device_error_holds, request_error_conditions, request_error_holds, result_error_conditions, result_error_holds}
use Rattle.rule_conditions.proofs.Tests.{by_test, when_due}

request_bools : (is_open something stopped fault shutter : Bool) → (is_open && (not something && ((stopped || fault) && ((stopped || shutter) && true)))) ≡ ((is_open && not something) && ((fault && shutter) || stopped))
request_bools is_open something stopped fault shutter = grind arith

pub request_error_meets : (script : Script) (past : List Entry) (n : FrameNo) → IsTrue (list_all (λ c. request_error_holds c script past n.0) request_error_conditions) ↔ (error_request_due script past n.0 ≡ Some (ErrorRequest n))
request_error_meets script past n =
    by_test _ _ (request_bools (is_open n.0 past) (has_something n.0 past) (is_stopped n.0 past) (request_fault script n.0) (has_shutter n.0 past)) (when_due (may_fail_request script past n.0) (ErrorRequest n))

result_bools : (shutter ended order fault stopped something whole : Bool) → (shutter && (not ended && (order && ((fault || stopped) && ((fault || something) && ((not whole || stopped) && true)))))) ≡ (((shutter && (not whole || stopped)) && not ended) && (order && (fault || (stopped && something))))
result_bools shutter ended order fault stopped something whole = grind arith

pub result_error_meets : (script : Script) (past : List Entry) (n : FrameNo) → IsTrue (list_all (λ c. result_error_holds c script past n.0) result_error_conditions) ↔ (error_result_due script past n.0 ≡ Some (ErrorResult n))
result_error_meets script past n =
    by_test _ _ (result_bools (has_shutter n.0 past) (is_metadata_ended n.0 past) (each_earlier n.0 (λ m. is_metadata_ended m past) past) (result_fault script n.0) (is_stopped n.0 past) (has_something n.0 past) (request_fault script n.0)) (when_due (may_fail_result script past n.0) (ErrorResult n))

buffer_bools : (target shutter request told returned fault stopped something whole : Bool) → (target && (shutter && (not request && (not told && (not returned && ((fault || stopped) && ((fault || something) && ((not whole || stopped) && true)))))))) ≡ ((target && ((shutter && (not whole || stopped)) && not request)) && ((not told && not returned) && (fault || (stopped && something))))
buffer_bools target shutter request told returned fault stopped something whole = grind arith

pub buffer_error_meets : (script : Script) (past : List Entry) (n : FrameNo) (s : StreamIx) → IsTrue (list_all (λ c. buffer_error_holds c script past n.0 s.0) buffer_error_conditions) ↔ (error_buffer_due script past n.0 s.0 ≡ Some (ErrorBuffer n s))
buffer_error_meets script past n s =
    by_test _ _ (buffer_bools (has_target n.0 s.0 past) (has_shutter n.0 past) (has_error_request n.0 past) (has_error_buffer n.0 s.0 past) (is_returned n.0 s.0 past) (buffer_fault script n.0 s.0) (is_stopped n.0 past) (has_something n.0 past) (request_fault script n.0)) (when_due (may_fail_buffer script past n.0 s.0) (ErrorBuffer n s))

device_bools : (stops fault : Bool) → (not stops && (fault && true)) ≡ (not stops && fault)
device_bools stops fault = grind arith

pub device_error_meets : (script : Script) (past : List Entry) → IsTrue (list_all (λ c. device_error_holds c script past) device_error_conditions) ↔ (error_device_due script past ≡ Some ErrorDevice)
device_error_meets script past =
    by_test _ _ (device_bools (is_stopping past) (list_any (may_fail_device_at script past) (frames past))) (when_due (may_fail_device script past) ErrorDevice)
