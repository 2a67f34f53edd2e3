-- The partial result that is due, from the rows.
use Rattle.std.proofs.Common.{◌≡◌, ℕ, ◌==◌, ◌+◌, Bool, true, false, ◌&&◌, ◌||◌, not, List, Option, Some, None, refl, arith, nat_le}
use Rattle.std.proofs.lemmas.Bool.Decides.{nat_tests}
use Rattle.cam_types.specs.declared.script.Script.{Script}
use Rattle.trace_model.specs.declared.entry.Entry.{Entry}
use Rattle.trace_model.specs.Faults.{request_fault, result_fault}
use Rattle.trace_model.specs.Frames.{each_earlier, has_error_request, shutter_time}
use Rattle.trace_model.specs.Legal.{IsLegal}
use Rattle.trace_model.specs.Open.{has_error_result, is_metadata_ended}
use Rattle.trace_model.specs.Partial.{partial_count, partial_of, partial_due}
use Rattle.state_facts.specs.Row.{is_ended, open_rows, row_of}
use Rattle.state_facts.specs.FrameReadings.{PartReads, each_below, part_from, part_row}
use Rattle.state_facts.proofs.OpenRows.{by-row, each-reads, row-ended}
use Rattle.state_facts.proofs.Unsent.{unsent}

-- the metadata of each earlier frame ended
pub ended-reads : (script : Script) (past : List Entry) (n : ℕ) → IsLegal script past → each_earlier n (λ m. is_metadata_ended m past) past ≡ each_below n is_ended (open_rows script past)
ended-reads script past n legal = each-reads script past n (λ m. is_metadata_ended m past) is_ended legal (λ m sent done. done.ended) (λ m sent. row-ended script past m legal)

same_part : (script : Script) (past : List Entry) (n k : ℕ) (o : Option ℕ) → each_earlier n (λ m. is_metadata_ended m past) past ≡ each_below n is_ended (open_rows script past) → partial_of script past n k o ≡ part_from script (open_rows script past) (row_of script past n) k o
same_part script past n k None same = refl
same_part script past n k (Some time) same = rw same refl

none_after : (c : ℕ) (request result fault kept : Bool) → (nat_le 3 c || (result || request)) ≡ true → ((not request && (not result && not fault)) && (nat_le (c + 1) 3 && kept)) ≡ false
none_after c request result fault kept h = grind (arith, nat_tests)

no_part : (script : Script) (past : List Entry) (n : ℕ) (o : Option ℕ) → is_ended (row_of script past n) ≡ true → partial_of script past n (partial_count n past + 1) o ≡ None
no_part script past n None ended = refl
no_part script past n (Some time) ended =
    rw (none_after (partial_count n past) (has_error_request n past) (has_error_result n past) (request_fault script n) (not (partial_count n past + 1 == 3) || (not (result_fault script n) && each_earlier n (λ m. is_metadata_ended m past) past)) ended) refl

pub part_reads : (script : Script) (past : List Entry) → PartReads script past
part_reads script past legal n =
    by-row script past n (partial_due script past n) (part_row script (open_rows script past)) legal
    (λ none. rw ((unsent script past n legal none).shutter) refl)
    (λ sent done. no_part script past n (shutter_time n past) (rw (row-ended script past n legal) done.ended))
    (λ sent here. same_part script past n (partial_count n past + 1) (shutter_time n past) (ended-reads script past n legal))
