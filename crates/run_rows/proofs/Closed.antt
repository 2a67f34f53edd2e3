-- Nothing is due of a closed frame.
use Rattle.std.proofs.Common.{◌≡◌, ℕ, Bool, true, false, List, Option, Some, None, refl, ap, ◌∙◌, if◌then◌else◌}
use Rattle.cam_types.specs.declared.script.Script.{Script}
use Rattle.trace_model.specs.declared.entry.Entry.{Entry}
use Rattle.trace_model.specs.declared.entry.Entry.TheVariants.{ErrorBuffer}
use Rattle.trace_model.specs.Errors.{error_request_due, error_result_due, failed_due, may_fail_buffer}
use Rattle.trace_model.specs.Filled.{early_due, filled_due}
use Rattle.trace_model.specs.Legal.{IsLegal}
use Rattle.trace_model.specs.Open.{is_open}
use Rattle.trace_model.specs.Partial.{partial_due}
use Rattle.state_facts.specs.FrameReadings.{on_row, row_at}
use Rattle.state_facts.specs.Row.{Row, open_rows}
use Rattle.state_facts.proofs.Deliver.{early_reads, failed_reads, filled_reads}
use Rattle.state_facts.proofs.Errors.{buffer_reads, request_reads, result_reads}
use Rattle.state_facts.proofs.Metadata.{part_reads}
use Rattle.state_facts.proofs.OpenRows.{row-where}

row-gone : (script : Script) (past : List Entry) (n : ℕ) → IsLegal script past → is_open n past ≡ false → row_at n (open_rows script past) ≡ None
row-gone script past n legal closed = row-where script past n legal ∙ rw closed refl

-- what is read from the row of a frame isn't there
unread : (script : Script) (past : List Entry) (n : ℕ) (f : Row → Option Entry) → IsLegal script past → is_open n past ≡ false → on_row f (row_at n (open_rows script past)) ≡ None
unread script past n f legal closed = ap (λ (o : Option Row). on_row f o) (row-gone script past n legal closed)

pub part-closed : (script : Script) (past : List Entry) (n : ℕ) → IsLegal script past → is_open n past ≡ false → partial_due script past n ≡ None
part-closed script past n legal closed = part_reads script past legal n ∙ unread script past n _ legal closed

pub request-closed : (script : Script) (past : List Entry) (n : ℕ) → IsLegal script past → is_open n past ≡ false → error_request_due script past n ≡ None
request-closed script past n legal closed = request_reads script past legal n ∙ unread script past n _ legal closed

pub result-closed : (script : Script) (past : List Entry) (n : ℕ) → IsLegal script past → is_open n past ≡ false → error_result_due script past n ≡ None
result-closed script past n legal closed = result_reads script past legal n ∙ unread script past n _ legal closed

pub buffer-closed : (script : Script) (past : List Entry) (n s : ℕ) → IsLegal script past → is_open n past ≡ false → may_fail_buffer script past n s ≡ false
buffer-closed script past n s legal closed = by (may_fail_buffer script past n s) (buffer_reads script past legal n s ∙ unread script past n _ legal closed)
  where
    by : (b : Bool) → (if b then Some (ErrorBuffer (record { 0 = n }) (record { 0 = s })) else None) ≡ None → b ≡ false
    by true h = absurd (cc)
    by false h = refl

pub filled-closed : (script : Script) (past : List Entry) (n s : ℕ) → IsLegal script past → is_open n past ≡ false → filled_due script past n s ≡ None
filled-closed script past n s legal closed = filled_reads script past legal n s ∙ unread script past n _ legal closed

pub early-closed : (script : Script) (past : List Entry) (n s : ℕ) → IsLegal script past → is_open n past ≡ false → early_due script past n s ≡ None
early-closed script past n s legal closed = early_reads script past legal n s ∙ unread script past n _ legal closed

pub failed-closed : (script : Script) (past : List Entry) (n s : ℕ) → IsLegal script past → is_open n past ≡ false → failed_due past n s ≡ None
failed-closed script past n s legal closed = failed_reads script past legal n s ∙ unread script past n _ legal closed
