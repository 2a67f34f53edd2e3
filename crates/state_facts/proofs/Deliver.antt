-- The filled and the failed buffer that are due, from the rows.
use Rattle.std.proofs.Common.{◌≡◌, ℕ, ◌==◌, Bool, true, false, ◌&&◌, ◌||◌, not, List, [], ◌∷◌, Option, Some, None, refl, sym, ◌∙◌, inl, inr, is_some, option_map, if◌then◌else◌}
use Rattle.std.specs.List.{list_any, list_all}
use Rattle.std.proofs.lemmas.Bool.{cases_Bool, eqb-true, false≢true}
use Rattle.cam_types.specs.declared.script.Script.{Script}
use Rattle.trace_model.specs.declared.entry.Entry.{Entry}
use Rattle.trace_model.specs.declared.entry.Entry.TheVariants.{Early}
use Rattle.trace_model.specs.declared.entry.Sent.{Sent}
use Rattle.trace_model.specs.Configuration.{streams}
use Rattle.trace_model.specs.Entry.{sends}
use Rattle.trace_model.specs.Errors.{failed_due, failed_of}
use Rattle.trace_model.specs.Fence.{is_passed}
use Rattle.trace_model.specs.Filled.{early_due, early_of, filled_due, filled_of, lets_pass}
use Rattle.trace_model.specs.Frames.{each_earlier, has_error_request, has_target, is_sent, send_of, target_of, targets_of}
use Rattle.trace_model.specs.Legal.{IsLegal}
use Rattle.trace_model.specs.Numbers.{next_early}
use Rattle.trace_model.specs.Open.{has_error_buffer, is_returned}
use Rattle.state_facts.specs.Row.{open_rows, row_of, target_at}
use Rattle.state_facts.specs.FrameReadings.{EarlyReads, FailedReads, FilledReads, early_from, early_row, each_below, failed_from, failed_row, filled_from, filled_row, lets_pass_row}
use Rattle.state_facts.proofs.Errors.{done-returned, target-reads, target-stream, done-passes}
use Rattle.trace_laws.proofs.Times.{timed-shutter}
use Rattle.state_facts.proofs.OpenRows.{IsDone, by-row, each-reads}
use Rattle.trace_laws.proofs.Out.{out-reads}
use Rattle.basic_lemmas.proofs.Lists.{all-mapped, any-found}

-- ---- frames that hold no later buffer back

of_stream : (n s : ℕ) (past : List Entry) (ts : List Sent) → list_all (λ t. not (t.stream.0 == s) || (is_returned n t.stream.0 past || has_error_buffer n t.stream.0 past)) ts ≡ (not (list_any (λ t. t.stream.0 == s) ts) || (is_returned n s past || has_error_buffer n s past))
of_stream n s past [] = refl
of_stream n s past (t ∷ ts) =
    elim (cases_Bool (t.stream.0 == s)) [
      | inl here ↦ (let at = eqb-true t.stream.0 s here in rw (here, at, of_stream n s past ts) (again (is_returned n s past || has_error_buffer n s past) (list_any (λ u. u.stream.0 == s) ts)))
      | inr other ↦ rw other (of_stream n s past ts)
    ]
  where
    again : (a b : Bool) → (a && (not b || a)) ≡ a
    again true true = refl
    again true false = refl
    again false b = refl

pub passes-reads : (script : Script) (past : List Entry) (n s : ℕ) → lets_pass_row s (row_of script past n) ≡ lets_pass past s n
passes-reads script past n s =
    rw (all-mapped (λ t. not (t.sent.stream.0 == s) || (t.returned || t.announced)) (target_at n past) (targets_of n past), of_stream n s past (targets_of n past)) (turned (has_error_request n past) (not (has_target n s past)) (is_returned n s past) (has_error_buffer n s past))
  where
    turned : (a b c d : Bool) → (a || (b || (c || d))) ≡ (b || (c || (d || a)))
    turned true true c d = refl
    turned true false true d = refl
    turned true false false true = refl
    turned true false false false = refl
    turned false true c d = refl
    turned false false true d = refl
    turned false false false true = refl
    turned false false false false = refl

pub all-pass-reads : (script : Script) (past : List Entry) (n s : ℕ) → IsLegal script past → each_earlier n (lets_pass past s) past ≡ each_below n (lets_pass_row s) (open_rows script past)
all-pass-reads script past n s legal = each-reads script past n (lets_pass past s) (lets_pass_row s) legal (λ m sent done. done-passes past m s done) (λ m sent. passes-reads script past m s)

-- ---- filled

pub done_back : (past : List Entry) (n s : ℕ) (t : Sent) → target_of n s past ≡ Some t → IsDone past n → is_returned n s past ≡ true
done_back past n s t at done =
    let has : has_target n s past ≡ true = rw (any-found (λ u. u.stream.0 == s) (targets_of n past), at) refl in
    rw has at (done-returned past n s done)

unsent_target : (n s : ℕ) (past : List Entry) → is_sent n past ≡ false → target_of n s past ≡ None
unsent_target n s past none =
    let found : send_of n past ≡ None = by_none (send_of n past) (sym (any-found (sends n) past) ∙ none) in
    rw found refl
  where
    by_none : (o : Option Entry) → is_some o ≡ false → o ≡ None
    by_none None h = refl
    by_none (Some e) h = absurd (false≢true (sym h))

same_filled : (script : Script) (past : List Entry) (n s : ℕ) (o : Option Sent) → IsLegal script past → target_of n s past ≡ o → filled_of script past n s o ≡ filled_from script (streams script past) (open_rows script past) (λ f. is_passed f past) s (row_of script past n) (option_map (target_at n past) o)
same_filled script past n s None legal at = refl
same_filled script past n s (Some t) legal at =
    rw (out-reads script past n s t legal at, target-stream past n s t at, timed-shutter n past, all-pass-reads script past n s legal) refl

no_filled : (script : Script) (past : List Entry) (n s : ℕ) (o : Option Sent) → IsLegal script past → target_of n s past ≡ o → IsDone past n → filled_of script past n s o ≡ None
no_filled script past n s None legal at done = refl
no_filled script past n s (Some t) legal at done = rw (out-reads script past n s t legal at, done_back past n s t at done) refl

pub filled_reads : (script : Script) (past : List Entry) → FilledReads script past
filled_reads script past legal n s =
    by-row script past n (filled_due script past n s) (filled_row script (streams script past) (open_rows script past) (λ f. is_passed f past) s) legal
    (λ none. rw (unsent_target n s past none) refl)
    (λ sent done. no_filled script past n s (target_of n s past) legal refl done)
    (λ sent here. rw (target-reads script past n s) (same_filled script past n s (target_of n s past) legal refl))

-- ---- early

same_early : (script : Script) (past : List Entry) (n s : ℕ) (o : Option Sent) → IsLegal script past → target_of n s past ≡ o → early_of script past n s o ≡ early_from script (open_rows script past) (λ f. is_passed f past) (next_early past) s (row_of script past n) (option_map (target_at n past) o)
same_early script past n s None legal at = refl
same_early script past n s (Some t) legal at =
    rw (out-reads script past n s t legal at, target-stream past n s t at, timed-shutter n past, all-pass-reads script past n s legal) refl

no_early : (script : Script) (past : List Entry) (n s : ℕ) (o : Option Sent) → IsLegal script past → target_of n s past ≡ o → IsDone past n → early_of script past n s o ≡ None
no_early script past n s None legal at done = refl
no_early script past n s (Some t) legal at done = rw (out-reads script past n s t legal at, done_back past n s t at done) (never script.early (Early (record { 0 = n }) (record { 0 = s }) t.buffer (record { 0 = next_early past })))
  where
    never : (a : Bool) (e : Entry) → (if a && false then Some e else None) ≡ None
    never true e = refl
    never false e = refl

pub early_reads : (script : Script) (past : List Entry) → EarlyReads script past
early_reads script past legal n s =
    by-row script past n (early_due script past n s) (early_row script (open_rows script past) (λ f. is_passed f past) (next_early past) s) legal
    (λ none. rw (unsent_target n s past none) refl)
    (λ sent done. no_early script past n s (target_of n s past) legal refl done)
    (λ sent here. rw (target-reads script past n s) (same_early script past n s (target_of n s past) legal refl))

-- ---- failed

same_failed : (script : Script) (past : List Entry) (n s : ℕ) (o : Option Sent) → IsLegal script past → target_of n s past ≡ o → failed_of past n s o ≡ failed_from (λ f. is_passed f past) s (row_of script past n) (option_map (target_at n past) o)
same_failed script past n s None legal at = refl
same_failed script past n s (Some t) legal at = rw (out-reads script past n s t legal at, target-stream past n s t at) refl

no_failed : (script : Script) (past : List Entry) (n s : ℕ) (o : Option Sent) → IsLegal script past → target_of n s past ≡ o → IsDone past n → failed_of past n s o ≡ None
no_failed script past n s None legal at done = refl
no_failed script past n s (Some t) legal at done = rw (out-reads script past n s t legal at, done_back past n s t at done) refl

pub failed_reads : (script : Script) (past : List Entry) → FailedReads script past
failed_reads script past legal n s =
    by-row script past n (failed_due past n s) (failed_row (λ f. is_passed f past) s) legal
    (λ none. rw (unsent_target n s past none) refl)
    (λ sent done. no_failed script past n s (target_of n s past) legal refl done)
    (λ sent here. rw (target-reads script past n s) (same_failed script past n s (target_of n s past) legal refl))
