-- The errors of a frame that are due, from the rows.
use Rattle.std.proofs.Common.{◌≡◌, ℕ, ◌==◌, Bool, true, false, ◌&&◌, ◌||◌, not, List, Option, Some, None, refl, inl, inr, is_some, option_map}
use Rattle.std.proofs.lemmas.Bool.{cases_Bool, eqb-true, false≢true}
use Rattle.cam_types.specs.declared.script.Script.{Script}
use Rattle.trace_model.specs.declared.entry.Entry.{Entry}
use Rattle.trace_model.specs.declared.entry.Sent.{Sent}
use Rattle.trace_model.specs.Errors.{error_buffer_due, error_request_due, error_result_due, is_cut_short, may_fail_in_part}
use Rattle.trace_model.specs.Faults.{buffer_fault, result_fault}
use Rattle.trace_model.specs.Frames.{each_earlier, has_error_request, has_target, target_of, targets_of}
use Rattle.trace_model.specs.Legal.{IsLegal}
use Rattle.trace_model.specs.Open.{has_error_buffer, is_metadata_ended, is_returned, is_settled}
use Rattle.trace_laws.proofs.Printed.{one-of-all}
use Rattle.state_facts.specs.Row.{open_rows, row_of, target_at}
use Rattle.state_facts.specs.FrameReadings.{BufferReads, RequestReads, ResultReads, buffer_from, buffer_row, request_row, result_row, target_in}
use Rattle.state_facts.proofs.Metadata.{ended-reads}
use Rattle.trace_laws.proofs.Times.{timed-shutter}
use Rattle.state_facts.proofs.OpenRows.{IsDone, by-row, row-ended, row-open}
use Rattle.state_facts.proofs.Something.{something-reads}
use Rattle.basic_lemmas.proofs.Lists.{find-mapped, found-passes, any-found}
use Rattle.trace_laws.proofs.Once.{settled-returned}
use Rattle.trace_laws.proofs.Told.{unexposed}
use Rattle.basic_lemmas.proofs.Tests.{or-more}
use Rattle.trace_model.specs.Filled.{lets_pass}

-- ---- of the request

pub request_reads : (script : Script) (past : List Entry) → RequestReads script past
request_reads script past legal n =
    by-row script past n (error_request_due script past n) (request_row script) legal
    (λ none. rw none refl)
    (λ sent done. rw (sent, done.ended, done.back) refl)
    (λ sent here. rw (← row-open script past n legal sent, here, something-reads script past n legal, timed-shutter n past) refl)

-- ---- of the metadata

not_after : (a b : Bool) → ((a && not true) && b) ≡ false
not_after true b = refl
not_after false b = refl

pub result_reads : (script : Script) (past : List Entry) → ResultReads script past
result_reads script past legal n =
    by-row script past n (error_result_due script past n) (result_row script (open_rows script past)) legal
    (λ none. rw (unexposed script past n legal none) refl)
    (λ sent done. rw (done.ended, not_after (may_fail_in_part script past n) (each_earlier n (λ m. is_metadata_ended m past) past && (result_fault script n || is_cut_short past n))) refl)
    (λ sent here. rw (row-ended script past n legal, ended-reads script past n legal, something-reads script past n legal, timed-shutter n past) refl)

-- ---- of a buffer

-- the target of the row for a stream
pub target-reads : (script : Script) (past : List Entry) (n s : ℕ) → target_in s (row_of script past n) ≡ option_map (target_at n past) (target_of n s past)
target-reads script past n s = find-mapped (λ t. t.sent.stream.0 == s) (target_at n past) (targets_of n past)

pub target-stream : (past : List Entry) (n s : ℕ) (t : Sent) → target_of n s past ≡ Some t → t.stream.0 ≡ s
target-stream past n s t at = eqb-true t.stream.0 s (found-passes (λ t. t.stream.0 == s) (targets_of n past) t at)

has-target-found : (past : List Entry) (n s : ℕ) → has_target n s past ≡ is_some (target_of n s past)
has-target-found past n s = any-found (λ t. t.stream.0 == s) (targets_of n past)

same_buffer : (script : Script) (past : List Entry) (n s : ℕ) (o : Option Sent) → IsLegal script past → target_of n s past ≡ o → error_buffer_due script past n s ≡ buffer_from script s (row_of script past n) (option_map (target_at n past) o)
same_buffer script past n s None legal at = rw (has-target-found past n s, at) refl
same_buffer script past n s (Some t) legal at =
    rw (has-target-found past n s, at, target-stream past n s t at, timed-shutter n past, something-reads script past n legal) refl

pub no_buffer : (a b c d e f : Bool) → (not a || d) ≡ true → ((a && (b && c)) && ((e && not d) && f)) ≡ false
no_buffer false b c d e f h = refl
no_buffer true false c d e f h = refl
no_buffer true true false d e f h = refl
no_buffer true true true true true f h = refl
no_buffer true true true true false f h = refl
no_buffer true true true false e f h = absurd (false≢true h)

pub no_began : (a c d : Bool) → ((a && (false && c)) && d) ≡ false
no_began true c d = refl
no_began false c d = refl

-- a target of a frame that is done came back
pub done-returned : (past : List Entry) (n s : ℕ) → IsDone past n → (not (has_target n s past) || is_returned n s past) ≡ true
done-returned past n s done =
    elim (cases_Bool (has_target n s past)) [
      | inl has ↦ (
          let back = one-of-all (is_returned n s past ≡ true) (λ t. is_settled n t.stream.0 past) (λ t. t.stream.0 == s) (targets_of n past) (λ t back at. rw (eqb-true t.stream.0 s at) at (settled-returned n t.stream.0 past back)) done.back has in
          rw (has, back) refl
          )
      | inr none ↦ rw none refl
    ]

pub done-passes : (past : List Entry) (n s : ℕ) → IsDone past n → lets_pass past s n ≡ true
done-passes past n s done = or-more (not (has_target n s past)) (is_returned n s past) (has_error_buffer n s past || has_error_request n past) (done-returned past n s done)

pub buffer_reads : (script : Script) (past : List Entry) → BufferReads script past
buffer_reads script past legal n s =
    by-row script past n (error_buffer_due script past n s) (buffer_row script s) legal
    (λ none. rw (unexposed script past n legal none, no_began (has_target n s past) (not (has_error_request n past)) ((not (has_error_buffer n s past) && not (is_returned n s past)) && (buffer_fault script n s || is_cut_short past n))) refl)
    (λ sent done. rw (no_buffer (has_target n s past) (may_fail_in_part script past n) (not (has_error_request n past)) (is_returned n s past) (not (has_error_buffer n s past)) (buffer_fault script n s || is_cut_short past n) (done-returned past n s done)) refl)
    (λ sent here. rw (target-reads script past n s) (same_buffer script past n s (target_of n s past) legal refl))
