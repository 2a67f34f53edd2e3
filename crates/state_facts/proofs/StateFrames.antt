-- What is due of the frames is read from the state.
use Rattle.std.proofs.Common.{◌≡◌, ℕ, Bool, List, Option, Some, None, refl, ap, ◌∙◌}
use std.Path.{fun_ext}
use Rattle.cam_types.specs.declared.number.FenceNo.{FenceNo}
use Rattle.cam_types.specs.declared.script.Script.{Script}
use Rattle.trace_model.specs.declared.entry.Entry.{Entry}
use Rattle.trace_model.specs.Configuration.{streams}
use Rattle.trace_model.specs.Errors.{error_buffer_due, error_device_due, error_request_due, error_result_due, failed_due}
use Rattle.trace_model.specs.Fence.{is_passed}
use Rattle.trace_model.specs.Filled.{early_due, filled_due, late_due}
use Rattle.trace_model.specs.Legal.{IsLegal}
use Rattle.trace_model.specs.Numbers.{next_early}
use Rattle.trace_model.specs.Partial.{partial_due}
use Rattle.trace_model.specs.Shutter.{shutter_due}
use Rattle.state_facts.specs.FrameReadings.{early_row, failed_row, filled_row, on_row, row_at}
use Rattle.state_facts.specs.Homes.{homes, passed_in}
use Rattle.state_facts.specs.Row.{open_rows}
use Rattle.state_facts.specs.States.{early_in, error_buffer_in, error_device_in, error_request_in, error_result_in, failed_in, filled_in, late_in, partial_in, shutter_in, state}
use Rattle.state_facts.proofs.BufferReadings.{earlies_are, signalled_is}
use Rattle.state_facts.proofs.Deliver.{early_reads, failed_reads, filled_reads}
use Rattle.state_facts.proofs.Errors.{buffer_reads, request_reads, result_reads}
use Rattle.state_facts.proofs.Late.{late_reads}
use Rattle.state_facts.proofs.Metadata.{part_reads}
use Rattle.state_facts.proofs.Sensor.{device_reads, shutter_reads}

passed-is : (script : Script) (past : List Entry) → IsLegal script past → (λ f. is_passed f past) ≡ passed_in (homes past)
passed-is script past legal = fun_ext by-fence
  where
    by-fence : (f : Option FenceNo) → is_passed f past ≡ passed_in (homes past) f
    by-fence None = refl
    by-fence (Some f) = signalled_is script past f.0 legal

pub shutter_is : (script : Script) (past : List Entry) → IsLegal script past → shutter_due script past ≡ shutter_in script (state script past)
shutter_is = shutter_reads

pub error_device_is : (script : Script) (past : List Entry) → IsLegal script past → error_device_due script past ≡ error_device_in script (state script past)
error_device_is = device_reads

pub partial_is : (script : Script) (past : List Entry) (n : ℕ) → IsLegal script past → partial_due script past n ≡ partial_in script (state script past) n
partial_is script past n legal = part_reads script past legal n

pub error_request_is : (script : Script) (past : List Entry) (n : ℕ) → IsLegal script past → error_request_due script past n ≡ error_request_in script (state script past) n
error_request_is script past n legal = request_reads script past legal n

pub error_result_is : (script : Script) (past : List Entry) (n : ℕ) → IsLegal script past → error_result_due script past n ≡ error_result_in script (state script past) n
error_result_is script past n legal = result_reads script past legal n

pub error_buffer_is : (script : Script) (past : List Entry) (n s : ℕ) → IsLegal script past → error_buffer_due script past n s ≡ error_buffer_in script (state script past) n s
error_buffer_is script past n s legal = buffer_reads script past legal n s

pub filled_is : (script : Script) (past : List Entry) (n s : ℕ) → IsLegal script past → filled_due script past n s ≡ filled_in script (state script past) n s
filled_is script past n s legal =
    filled_reads script past legal n s
    ∙ ap (λ (passed : Option FenceNo → Bool). on_row (filled_row script (streams script past) (open_rows script past) passed s) (row_at n (open_rows script past))) (passed-is script past legal)

pub early_is : (script : Script) (past : List Entry) (n s : ℕ) → IsLegal script past → early_due script past n s ≡ early_in script (state script past) n s
early_is script past n s legal =
    early_reads script past legal n s
    ∙ (ap (λ (passed : Option FenceNo → Bool). on_row (early_row script (open_rows script past) passed (next_early past) s) (row_at n (open_rows script past))) (passed-is script past legal)
    ∙ ap (λ (next : ℕ). on_row (early_row script (open_rows script past) (passed_in (homes past)) next s) (row_at n (open_rows script past))) (earlies_are past))

pub failed_is : (script : Script) (past : List Entry) (n s : ℕ) → IsLegal script past → failed_due past n s ≡ failed_in (state script past) n s
failed_is script past n s legal =
    failed_reads script past legal n s
    ∙ ap (λ (passed : Option FenceNo → Bool). on_row (failed_row passed s) (row_at n (open_rows script past))) (passed-is script past legal)

pub late_is : (script : Script) (past : List Entry) (d : ℕ) → IsLegal script past → late_due script past d ≡ late_in (state script past) d
late_is script past d legal = late_reads script past legal d
