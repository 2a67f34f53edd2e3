-- A run has room for its next line, and few lines.
use Rattle.std.proofs.Common.{◌≡◌, ℕ, ◌<◌, ◌≤◌, true, ◌&&◌, not, List, [], ◌∷◌, ◌++◌, Option, Some, None, inl, inr, sym, ap, arith, length, is_some, nat_le, reverse, slice_get, subst}
use Rattle.std.specs.List.{list_all}
use Rattle.std.proofs.lemmas.Bool.{and_parts, cases_Bool, leb-true}
use Rattle.std.proofs.lemmas.List.{length-reverse, reverse-append}
use Rattle.std.proofs.lemmas.List.Sums.{count_by-le-length}
use Rattle.reprocess_model.specs.declared.entry.ReEntry.{ReEntry}
use Rattle.reprocess_model.specs.declared.entry.ReEntry.TheVariants.{Called, BeginFlush, Flushed, Dropped, Error, Failed, Fill, Input}
use Rattle.reprocess_model.specs.declared.plan.Plan.{Plan}
use Rattle.reprocess_model.specs.declared.plan.ReCommand.{ReCommand}
use Rattle.reprocess_model.specs.declared.plan.ReCommand.TheVariants.{Request, Flush}
use Rattle.reprocess_model.specs.declared.step.ReStepName.{ReStepName}
use Rattle.reprocess_model.specs.declared.step.ReStepName.TheVariants.{TakeNext, Client, DropNext, Fail, ReturnFailed, ReturnFilled, ReturnInput}
use Rattle.reprocess_model.specs.Due.{all_returned, digest_of, drop_of, due, failed_with, fill_with, has_outs, input_with, line_of_command, may_fail, may_fill, step_of, take_line, take_with}
use Rattle.reprocess_model.specs.Laws.{line_bound}
use Rattle.reprocess_model.specs.Past.{all_inputs_home, call_count, has_error, input_holder, input_of, is_by, is_stopping, least_input, least_queued, output_holder, output_of}
use Rattle.reprocess_model.specs.Plan.{is_flush, is_plan, is_request}
use Rattle.reprocess_model.specs.Run.{IsRun}
use Rattle.reprocess_model.proofs.Bound.{bounded}
use Rattle.reprocess_model.proofs.Facts.{when-some}
use Rattle.reprocess_model.proofs.Stuck.{accepted-parts}
use Rattle.reprocess_core.specs.State.{IsCourse}

pub few-commands : (plan : Plan) → is_plan plan ≡ true → length plan.commands ≤ 64
few-commands plan h = leb-true (length plan.commands) 64 (accepted-parts plan h).few_commands

pub few-lines : (plan : Plan) (lines : List ReEntry) → is_plan plan ≡ true → IsRun plan (reverse lines) → length lines ≤ 640
few-lines plan lines valid run =
    let most = bounded plan (reverse lines) valid run in
    let long = length-reverse lines in
    let few = few-commands plan valid in
    let requests = count_by-le-length is_request plan.commands in
    let flushes = count_by-le-length is_flush plan.commands in
    omega (arith, most, long, few, requests, flushes)

-- ---- a line is of the step that it is due of

taken-step : (plan : Plan) (past : List ReEntry) (q k : Option ℕ) (line : ReEntry) → take_with plan past q k ≡ Some line → step_of line ≡ TakeNext
taken-step plan past None k line h = absurd (cc)
taken-step plan past (Some n) None line h = absurd (cc)
taken-step plan past (Some n) (Some i) line h =
    ap step_of (sym (when-some (not (is_stopping past) && has_outs plan past) (take_line plan past n i) line h).1)

client-step : (past : List ReEntry) (o : Option ReCommand) (line : ReEntry) → line_of_command past o ≡ Some line → step_of line ≡ Client
client-step past None line h = absurd (cc)
client-step past (Some (Request s)) line h = let same : Called (call_count past) ≡ line = cc in ap step_of (sym same)
client-step past (Some Flush) line h =
    elim (cases_Bool (is_stopping past)) [
      | inl on ↦ (
          let h' = rw on at h in
          ap step_of (sym (when-some (not (is_some (least_queued past)) && all_inputs_home past) (Flushed (call_count past)) line h').1)
          )
      | inr off ↦ (let h' = rw off at h in let same : BeginFlush ≡ line = cc in ap step_of (sym same))
    ]

drop-step : (past : List ReEntry) (q : Option ℕ) (line : ReEntry) → drop_of past q ≡ Some line → step_of line ≡ DropNext
drop-step past None line h = absurd (cc)
drop-step past (Some n) line h = ap step_of (sym (when-some (is_stopping past) (Dropped (record { 0 = n })) line h).1)

failed-step : (past : List ReEntry) (n s : ℕ) (o : Option ℕ) (line : ReEntry) → failed_with past n s o ≡ Some line → step_of line ≡ ReturnFailed (record { 0 = n }) (record { 0 = s })
failed-step past n s None line h = absurd (cc)
failed-step past n s (Some b) line h =
    ap step_of (sym (when-some (has_error n past && is_by n (output_holder b past)) (Failed (record { 0 = n }) (record { 0 = s }) (record { 0 = b })) line h).1)

filled-step : (plan : Plan) (past : List ReEntry) (n s : ℕ) (o : Option ℕ) (line : ReEntry) → fill_with plan past n s o ≡ Some line → step_of line ≡ ReturnFilled (record { 0 = n }) (record { 0 = s })
filled-step plan past n s None line h = absurd (cc)
filled-step plan past n s (Some b) line h =
    ap step_of (sym (when-some (may_fill plan past n s b) (Fill (record { 0 = n }) (record { 0 = s }) (record { 0 = b }) (digest_of plan n s)) line h).1)

input-step : (plan : Plan) (past : List ReEntry) (n : ℕ) (o : Option ℕ) (line : ReEntry) → input_with plan past n o ≡ Some line → step_of line ≡ ReturnInput (record { 0 = n })
input-step plan past n None line h = absurd (cc)
input-step plan past n (Some i) line h =
    ap step_of (sym (when-some (is_by n (input_holder i past) && all_returned plan past n) (Input (record { 0 = n }) (record { 0 = i })) line h).1)

pub step-of-due : (plan : Plan) (past : List ReEntry) (step : ReStepName) (line : ReEntry) → due plan past step ≡ Some line → step_of line ≡ step
step-of-due plan past TakeNext line h = taken-step plan past (least_queued past) (least_input past) line h
step-of-due plan past Client line h = client-step past (slice_get plan.commands (call_count past)) line h
step-of-due plan past DropNext line h = drop-step past (least_queued past) line h
step-of-due plan past (Fail n) line h = ap step_of (sym (when-some (may_fail plan past n.0) (Error n) line h).1)
step-of-due plan past (ReturnFailed n s) line h = failed-step past n.0 s.0 (output_of n.0 s.0 past) line h
step-of-due plan past (ReturnFilled n s) line h = filled-step plan past n.0 s.0 (output_of n.0 s.0 past) line h
step-of-due plan past (ReturnInput n) line h = input-step plan past n.0 (input_of n.0 past) line h

-- so the line makes the run longer
pub run-more : (plan : Plan) (past : List ReEntry) (step : ReStepName) (line : ReEntry) → IsRun plan past → due plan past step ≡ Some line → IsRun plan (line ∷ past)
run-more plan past step line run h =
    (subst (λ (s : ReStepName). due plan past s ≡ Some line) (sym (step-of-due plan past step line h)) h, run)

-- and there is room for it
pub room-more : (plan : Plan) (lines : List ReEntry) (step : ReStepName) (line : ReEntry) (capacity : ℕ) → is_plan plan ≡ true → IsRun plan (reverse lines) → line_bound plan ≤ capacity → due plan (reverse lines) step ≡ Some line → length lines < capacity
room-more plan lines step line capacity valid run room h =
    let most = bounded plan (line ∷ reverse lines) valid (run-more plan (reverse lines) step line run h) in
    let long = length-reverse lines in
    omega (arith, most, long, room)

pub course-more : (plan : Plan) (lines : List ReEntry) (step : ReStepName) (line : ReEntry) (capacity : ℕ) → IsCourse plan lines capacity → due plan (reverse lines) step ≡ Some line → IsCourse plan (lines ++ line ∷ []) capacity
course-more plan lines step line capacity course h =
    let run = run-more plan (reverse lines) step line course.run h in
    record {
      valid = course.valid;
      run = rw (reverse-append lines (line ∷ [])) run;
      room = course.room;
    }
