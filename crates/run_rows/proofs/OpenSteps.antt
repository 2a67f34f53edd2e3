-- While a frame is open some step is ready: one of the least open frame, or one that it waits for.
use Rattle.std.proofs.Common.{◌≡◌, ℕ, ◌==◌, Bool, true, false, ◌&&◌, ◌||◌, List, [], ◌∷◌, Option, Some, None, refl, sym, ◌∙◌, inl, inr, find, is_some}
use Rattle.std.specs.List.{list_any}
use Rattle.std.proofs.lemmas.Bool.{and_from, both_ways, cases_Bool, eq-eqb, eqb-true, false≢true, or_left, or_parts}
use Rattle.cam_types.specs.declared.number.BufferId.{BufferId}
use Rattle.cam_types.specs.declared.number.DeviceFenceNo.{DeviceFenceNo}
use Rattle.cam_types.specs.declared.number.FenceNo.{FenceNo}
use Rattle.cam_types.specs.declared.number.FrameNo.{FrameNo}
use Rattle.cam_types.specs.declared.number.StreamIx.{StreamIx}
use Rattle.cam_types.specs.declared.script.Script.{Script}
use Rattle.trace_model.specs.declared.entry.Entry.{Entry}
use Rattle.trace_model.specs.declared.entry.Entry.TheVariants.{Filled, Failed, Early}
use Rattle.trace_model.specs.Entry.{brings, is_early_with}
use Rattle.trace_model.specs.Filled.{late_due}
use Rattle.trace_model.specs.Open.{early_fences, is_returned}
use Rattle.trace_laws.proofs.Early.{found-early}
use Rattle.trace_model.specs.declared.entry.Sent.{Sent}
use Rattle.trace_model.specs.Errors.{error_request_due, error_result_due, may_fail_buffer}
use Rattle.trace_model.specs.Fence.{is_late, is_passed}
use Rattle.trace_model.specs.Frames.{frames, has_target, is_sent, targets_of}
use Rattle.trace_model.specs.Legal.{IsLegal}
use Rattle.trace_model.specs.Partial.{partial_due}
use Rattle.trace_model.specs.Shutter.{may_expose, shutter_at, shutter_due}
use Rattle.trace_laws.proofs.Printed.{one-of-all}
use Rattle.state_facts.proofs.OpenRows.{frame-among}
use Rattle.state_facts.proofs.Settled.{fence-given}
use Rattle.state_facts.proofs.Fences.{is_given, target-given}
use Rattle.state_facts.proofs.Least.{IsAwaited, IsLeast}
use Rattle.state_facts.proofs.Open.{MayFill, MayReturn, NextOf, Device, Request, Result, Buffer, Expose, PartialResult, Return, Fill, Await, next-of}
use Rattle.run_model.specs.declared.step.Move.{Move}
use Rattle.run_model.specs.declared.step.StepName.{StepName}
use Rattle.run_model.specs.declared.step.StepName.TheVariants.{Signal, Fail, ReturnFailed, Shutter, SensorDone, Partial, TakeFill, FillDone, Deliver, Finish}
use Rattle.run_model.specs.History.{trace_of}
use Rattle.run_model.specs.Jobs.{is_any_fill_out, is_sensor_done_in, is_taken_in, is_filled_in, is_sensor_out, is_fill_out}
use Rattle.run_model.specs.Ready.{adding, error_due, failure_at, finish_due, where_entry, first_buffer_error, least_buffer_error, or_entry}
use Rattle.run_model.specs.Run.{IsRun}
use Rattle.run_rows.proofs.Kept.{lent-taken}
use Rattle.run_rows.proofs.Named.{GoesOn}
use Rattle.basic_lemmas.proofs.Lists.{any-where, any-at, found-passes, any-found}
use Rattle.run_rows.proofs.Errors.{own-stream}

abbrev frame_no : ℕ → FrameNo
frame_no n = record { 0 = n }

abbrev stream_ix : ℕ → StreamIx
stream_ix s = record { 0 = s }

pub or_first : (o p : Option Entry) → is_some o ≡ true → is_some (or_entry o p) ≡ true
or_first (Some e) p h = refl
or_first None p h = absurd (false≢true h)

pub or_second : (o p : Option Entry) → is_some p ≡ true → is_some (or_entry o p) ≡ true
or_second (Some e) p h = refl
or_second None p h = h

pub added : (step : StepName) (o : Option Entry) → is_some o ≡ true → is_some (adding step o) ≡ true
added step (Some e) h = refl
added step None h = absurd (false≢true h)

-- each target is one of the frame's
-- ---- the device fence of a buffer that came back early

-- what came back was brought, or has a device fence
early-some : (n s : ℕ) (past : List Entry) → is_returned n s past ≡ true → list_any (brings n s) past ≡ false → (d : ℕ) × (ds : List ℕ) × (early_fences n s past ≡ d ∷ ds)
early-some n s past back none = by (early_fences n s past) refl
  where
    by : (ds : List ℕ) → early_fences n s past ≡ ds → (d : ℕ) × (ds : List ℕ) × (early_fences n s past ≡ d ∷ ds)
    by [] at = absurd (both_ways (is_returned n s past) (not_back past none at) back)
      where
        not_back : (past : List Entry) → list_any (brings n s) past ≡ false → early_fences n s past ≡ [] → is_returned n s past ≡ false
        not_back [] none at = refl
        not_back (Filled m t b f d ∷ past) none at = let parts = or_parts ((m.0 == n) && (t.0 == s)) (list_any (brings n s) past) none in rw parts.0 (not_back past parts.1 at)
        not_back (Failed m t b f ∷ past) none at = let parts = or_parts ((m.0 == n) && (t.0 == s)) (list_any (brings n s) past) none in rw parts.0 (not_back past parts.1 at)
        not_back (Early m t b d ∷ past) none at =
            elim (cases_Bool ((m.0 == n) && (t.0 == s))) [
              | inl own ↦ (let at' = rw own at at in absurd (cc))
              | inr other ↦ (let at' = rw other at at in rw other (not_back past none at'))
            ]
        not_back (e ∷ past) none at = not_back past none at
    by (d ∷ ds) at = (d, ds, at)

finish-some : (script : Script) (past : List Entry) (n s : ℕ) → is_returned n s past ≡ true → list_any (brings n s) past ≡ false → list_any (λ d. is_late d past) (early_fences n s past) ≡ false → is_some (finish_due script past n s) ≡ true
finish-some script past n s back none late =
    let some = early-some n s past back none in
    let d : ℕ = some.0 in
    let ds : List ℕ = some.1 in
    let late' : (is_late d past || list_any (λ d. is_late d past) ds) ≡ false = rw some.2 at late in
    let not' = or_parts (is_late d past) (list_any (λ d. is_late d past) ds) late' in
    let own : list_any (λ f. d == f) (early_fences n s past) ≡ true = rw some.2 (or_left (d == d) (list_any (λ f. d == f) ds) (eq-eqb d d refl)) in
    let found = found-early past d (fence-given n s d past own) in
    rw some.2 (by d found.0 found.1 found.2 found.3 found.4 not'.0)
  where
    by : (d : ℕ) (k : FrameNo) (t : StreamIx) (b : BufferId) (f : DeviceFenceNo) → find (is_early_with d) past ≡ Some (Early k t b f) → is_late d past ≡ false → is_some (late_due script past d) ≡ true
    by d k t b f found open' = rw (found, open') refl

module _ (script : Script) (h : List Move) (n : ℕ) (run : IsRun script h) (legal : IsLegal script (trace_of h)) (sent : is_sent n (trace_of h) ≡ true) where
  fails : is_some (error_due script (trace_of h) n) ≡ true → GoesOn script h
  fails some = (Fail (frame_no n), added (Fail (frame_no n)) (error_due script (trace_of h) n) some, sent)

  least_error : (s : ℕ) → list_any (λ t. t.stream.0 == s) (targets_of n (trace_of h)) ≡ true → may_fail_buffer script (trace_of h) n s ≡ true → is_some (least_buffer_error script (trace_of h) n) ≡ true
  least_error s has may =
      let p : Sent → Bool = λ t. may_fail_buffer script (trace_of h) n t.stream.0 in
      let any = any-where (λ t. t.stream.0 == s) p (targets_of n (trace_of h)) (λ t at. rw (eqb-true t.stream.0 s at) may) has in
      by (find p (targets_of n (trace_of h))) (λ t at. found-passes p (targets_of n (trace_of h)) t at) (sym (any-found p (targets_of n (trace_of h))) ∙ any)
    where
      by : (o : Option Sent) → ((t : Sent) → o ≡ Some t → may_fail_buffer script (trace_of h) n t.stream.0 ≡ true) → is_some o ≡ true → is_some (first_buffer_error script (trace_of h) n o) ≡ true
      by None each some = absurd (false≢true some)
      by (Some t) each some = rw (each t refl) refl

  -- a job that is out can come back
  sensor_out : is_sensor_out h n ≡ true → GoesOn script h
  sensor_out out = (SensorDone (frame_no n), rw out refl, sent)

  fill_out : (s : ℕ) → has_target n s (trace_of h) ≡ true → is_fill_out h n s ≡ true → GoesOn script h
  fill_out s has out = (FillDone (frame_no n) (stream_ix s), rw out refl, and_from _ _ sent has)

  returns : (s : ℕ) (t : Sent) → MayReturn (trace_of h) n s t → GoesOn script h
  returns s t may =
      elim (cases_Bool (is_sensor_out h n)) [
        | inl out ↦ sensor_out out
        | inr home ↦ elim (cases_Bool (is_fill_out h n s)) [
          | inl out ↦ fill_out s may.owed.has out
          | inr in' ↦ (ReturnFailed (frame_no n) (stream_ix s), rw (home, in', may.owed.at, may.out, may.named) refl, and_from _ _ sent may.owed.has)
        ]
      ]

  takes : (s : ℕ) (t : Sent) → MayFill script (trace_of h) n s t → is_passed t.fence (trace_of h) ≡ true → is_taken_in h n s ≡ false → GoesOn script h
  takes s t may passed untaken =
      elim (cases_Bool (is_sensor_done_in h n)) [
        | inl done ↦ elim (cases_Bool (is_any_fill_out h n)) [
          | inl some ↦ one-of-all (GoesOn script h) (λ u. has_target n u.stream.0 (trace_of h)) (λ u. is_fill_out h n u.stream.0) (targets_of n (trace_of h)) (λ u has out. fill_out u.stream.0 has out) (own-stream (targets_of n (trace_of h))) some
          | inr none ↦ (TakeFill (frame_no n) (stream_ix s), rw (may.still, may.sound, may.owed.out, untaken, done, none, may.owed.at, passed) refl, and_from _ _ sent may.owed.has)
        ]
        | inr waits ↦ sensor_out (rw (may.shutter, waits) refl)
      ]

  fill_passed : (s : ℕ) (t : Sent) → MayFill script (trace_of h) n s t → is_passed t.fence (trace_of h) ≡ true → GoesOn script h
  fill_passed s t may passed =
      elim (cases_Bool (is_filled_in h n s)) [
        | inl filled ↦ (Deliver (frame_no n) (stream_ix s), rw (filled, may.owed.at, may.out, may.shutter, may.sound, passed, may.earlier) refl, and_from _ _ sent may.owed.has)
        | inr waits ↦ elim (cases_Bool (is_taken_in h n s)) [
          | inl taken ↦ fill_out s may.owed.has (rw (taken, waits) refl)
          | inr untaken ↦ takes s t may passed untaken
        ]
      ]

  signal_first : (f : Option FenceNo) → is_given (trace_of h) f ≡ true → is_passed f (trace_of h) ≡ false → GoesOn script h
  signal_first None given open' = absurd (false≢true (sym open'))
  signal_first (Some f) given open' = (Signal f, rw (given, open') refl, given)

  fills : (s : ℕ) (t : Sent) → MayFill script (trace_of h) n s t → GoesOn script h
  fills s t may =
      elim (cases_Bool (is_passed t.fence (trace_of h))) [
        | inl passed ↦ fill_passed s t may passed
        | inr open' ↦ signal_first t.fence (target-given script (trace_of h) n s t legal may.owed.at) open'
      ]

  -- one that came back early: its fill is out, or it is filled and its device fence can be signalled
  awaits : (s : ℕ) → IsAwaited (trace_of h) n s → GoesOn script h
  awaits s waits =
      let open' = or_parts (list_any (brings n s) (trace_of h)) (list_any (λ d. is_late d (trace_of h)) (early_fences n s (trace_of h))) waits.open' in
      let taken = lent-taken script h n s run waits.back open'.0 in
      elim (cases_Bool (is_filled_in h n s)) [
        | inl filled ↦ (Finish (frame_no n) (stream_ix s), added (Finish (frame_no n) (stream_ix s)) (where_entry (is_filled_in h n s) (finish_due script (trace_of h) n s)) (rw filled (finish-some script (trace_of h) n s waits.back open'.0 open'.1)), and_from _ _ sent waits.has)
        | inr not' ↦ fill_out s waits.has (rw (taken, not') refl)
      ]

  exposes : may_expose script (trace_of h) n ≡ true → GoesOn script h
  exposes may =
      let any = any-at (may_expose script (trace_of h)) (frames (trace_of h)) n (frame-among n (trace_of h) ∙ sent) may in
      (Shutter, added Shutter (shutter_due script (trace_of h)) (by (find (may_expose script (trace_of h)) (frames (trace_of h))) (sym (any-found (may_expose script (trace_of h)) (frames (trace_of h))) ∙ any)), refl)
    where
      by : (o : Option ℕ) → is_some o ≡ true → is_some (shutter_at script (trace_of h) o) ≡ true
      by None some = absurd (false≢true some)
      by (Some m) some = refl

  by_next : NextOf script (trace_of h) n → GoesOn script h
  by_next (Device may) = fails (or_first (failure_at script (trace_of h) n) _ (rw may refl))
  by_next (Request may) = fails (or_second (failure_at script (trace_of h) n) _ (or_first (error_request_due script (trace_of h) n) _ (rw may refl)))
  by_next (Result may) = fails (or_second (failure_at script (trace_of h) n) _ (or_second (error_request_due script (trace_of h) n) _ (or_first (error_result_due script (trace_of h) n) _ (rw may refl))))
  by_next (Buffer s t owes may) = fails (or_second (failure_at script (trace_of h) n) _ (or_second (error_request_due script (trace_of h) n) _ (or_second (error_result_due script (trace_of h) n) _ (least_error s owes.has may))))
  by_next (Expose may) = exposes may
  by_next (PartialResult some) = (Partial (frame_no n), added (Partial (frame_no n)) (partial_due script (trace_of h) n) some, sent)
  by_next (Return s t may) = returns s t may
  by_next (Fill s t may) = fills s t may
  by_next (Await s waits) = awaits s waits

  goes_by : IsLeast (trace_of h) n → GoesOn script h
  goes_by least = by_next (next-of script (trace_of h) n legal least)

pub open-goes-on : (script : Script) (h : List Move) (n : ℕ) → IsRun script h → IsLegal script (trace_of h) → IsLeast (trace_of h) n → GoesOn script h
open-goes-on script h n run legal least = goes_by script h n run legal least.sent least
