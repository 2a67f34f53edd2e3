-- While a fill is out the device isn't done with its buffer, and while the sensor has a frame none of it comes back.
use Rattle.std.proofs.Common.{◌≡◌, ◌⊎◌, ℕ, ◌==◌, ◌+◌, Bool, true, false, ◌&&◌, ◌||◌, not, List, [], ◌∷◌, Option, Some, None, refl, sym, ◌∙◌, inl, inr, find, is_some, if◌then◌else◌}
use Rattle.std.specs.List.{list_any}
use Rattle.std.proofs.lemmas.Bool.{and_from, and_parts, both_ways, cases_Bool, eq-eqb, eqb-true, false≢true, not-true, or_left, or_right, or_parts}
use Rattle.cam_types.specs.declared.number.BufferId.{BufferId}
use Rattle.cam_types.specs.declared.number.DeviceFenceNo.{DeviceFenceNo}
use Rattle.cam_types.specs.declared.number.FrameNo.{FrameNo}
use Rattle.cam_types.specs.declared.number.StreamIx.{StreamIx}
use Rattle.cam_types.specs.declared.script.Command.{Command}
use Rattle.cam_types.specs.declared.script.Script.{Script}
use Rattle.trace_model.specs.declared.entry.Entry.{Entry}
use Rattle.trace_model.specs.declared.entry.Entry.TheVariants.{Shutter as ShutterEntry, Filled as FilledEntry, Failed as FailedEntry, Early as EarlyEntry, Late as LateEntry}
use Rattle.trace_model.specs.declared.entry.Sent.{Sent}
use Rattle.trace_model.specs.Client.{begin_due, begin_of, call_due, call_of}
use Rattle.trace_model.specs.Calls.{next_command}
use Rattle.trace_model.specs.Drop.{drop_due, drop_of}
use Rattle.trace_model.specs.Entry.{brings, is_early_with, is_partial, is_shutter, returns_target, returns_of_frame}
use Rattle.trace_model.specs.Fence.{is_late}
use Rattle.trace_laws.specs.Settled.{has_fence, settles}
use Rattle.state_facts.proofs.Settled.{not-settled}
use Rattle.trace_laws.proofs.Shutters.{exposed, no-request}
use Rattle.state_facts.proofs.Caused.{caused}
use Rattle.trace_model.specs.Errors.{error_request_due, error_result_due, failed_due, failed_of, may_fail_buffer}
use Rattle.trace_model.specs.Filled.{early_due, early_of, filled_due, filled_of, is_sound, late_of}
use Rattle.trace_model.specs.Frames.{frames, has_error, has_shutter, shutter_time, target_of, targets_of}
use Rattle.trace_model.specs.Legal.{IsLegal}
use Rattle.trace_model.specs.Open.{early_fences, has_something, is_open, is_returned, is_settled}
use Rattle.trace_model.specs.Partial.{partial_count, partial_of, partial_due}
use Rattle.trace_model.specs.Queue.{first_in, next, queued}
use Rattle.cam_types.specs.declared.request.Queued.{Queued}
use Rattle.cam_types.specs.declared.request.WaitingItem.{WaitingItem}
use Rattle.trace_model.specs.Release.{release_due, signal_due}
use Rattle.trace_model.specs.Send.{least_targets, may_go, send_due, send_next, send_with, targets_in_order}
use Rattle.trace_model.specs.Shutter.{may_expose, shutter_at, shutter_due}
use Rattle.trace_model.specs.Stopping.{is_stopping}
use Rattle.run_model.specs.declared.step.Move.{Move}
use Rattle.run_model.specs.declared.step.StepName.{StepName}
use Rattle.run_model.specs.declared.step.StepName.TheVariants.{Send, Release, Signal, Client, DropQueued, Fail, ReturnFailed, Shutter, SensorDone, Partial, TakeFill, FillDone, Deliver, Early, Finish}
use Rattle.run_model.specs.History.{is_fill_done, is_sensor_done, is_take_fill, trace_of, with_entry}
use Rattle.run_model.specs.Jobs.{is_filled_in, is_fill_out, is_sensor_done_in, is_sensor_out, is_taken_in, is_readout_home}
use Rattle.run_model.specs.Ready.{adding, error_due, failure_at, finish_due, late_with, first_buffer_error, least_buffer_error, may_take_fill, move_of, or_entry, silent, target_is_passed, where_entry}
use Rattle.run_model.specs.Run.{IsRun}
use Rattle.run_rows.proofs.NeverStuckJobs.{silent_test, where_test}
use Rattle.basic_lemmas.proofs.Lists.{any-where}
use Rattle.trace_laws.proofs.Settled.{fence-frame, settled-noted}
use Rattle.run_model.proofs.Unsent.{taken-done, filled-taken}
use Rattle.run_model.proofs.Legal.{runs_legally}

abbrev any_in : (Entry → Bool) → Option Entry → Bool
any_in p None = false
any_in p (Some e) = p e

-- the entry gives the buffer of frame n for stream s back, or signals one of these device fences
abbrev pub affects : ℕ → ℕ → List ℕ → Entry → Bool
affects n s fences (FilledEntry m t _ _ _) = (m.0 == n) && (t.0 == s)
affects n s fences (FailedEntry m t _ _) = (m.0 == n) && (t.0 == s)
affects n s fences (EarlyEntry m t _ _) = (m.0 == n) && (t.0 == s)
affects n s fences (LateEntry d _) = has_fence d.0 fences
affects n s fences _ = false

return-affects : (n s : ℕ) (fences : List ℕ) (e : Entry) → returns_target n s e ≡ true → affects n s fences e ≡ true
return-affects n s fences (FilledEntry m t b f d) h = h
return-affects n s fences (FailedEntry m t b f) h = h
return-affects n s fences (EarlyEntry m t b d) h = h
return-affects n s fences _ h = absurd (false≢true h)

settle-affects : (n s : ℕ) (fences : List ℕ) (e : Entry) → settles n s e fences ≡ true → affects n s fences e ≡ true
settle-affects n s fences (FilledEntry m t b f d) h = h
settle-affects n s fences (FailedEntry m t b f) h = h
settle-affects n s fences (LateEntry d x) h = h
settle-affects n s fences _ h = absurd (false≢true h)

in_more : (p q : Entry → Bool) (o : Option Entry) → ((e : Entry) → p e ≡ true → q e ≡ true) → any_in p o ≡ true → any_in q o ≡ true
in_more p q None more h = h
in_more p q (Some e) more h = more e h

-- ---- which steps do so

where_tested : (p : Entry → Bool) (t : Bool) (x : Entry) → any_in p (if t then Some x else None) ≡ true → p x ≡ true
where_tested p true x h = h
where_tested p false x h = absurd (false≢true h)

tested : (p : Entry → Bool) (t : Bool) (x : Entry) → p x ≡ false → any_in p (if t then Some x else None) ≡ false
tested p true x h = h
tested p false x h = refl

either_in : (p : Entry → Bool) (a b : Option Entry) → any_in p a ≡ false → any_in p b ≡ false → any_in p (or_entry a b) ≡ false
either_in p (Some e) b h k = h
either_in p None b h k = k

module _ (n s : ℕ) (fences : List ℕ) where
  abbrev back : Option Entry → Bool
  back o = any_in (affects n s fences) o

  no_begin : (past : List Entry) (o : Option Command) → back (begin_of past o) ≡ false
  no_begin past None = refl
  no_begin past (Some c) = tested (affects n s fences) _ _ refl

  no_call : (script : Script) (past : List Entry) (o : Option Command) → back (call_of script past o) ≡ false
  no_call script past None = refl
  no_call script past (Some c) = tested (affects n s fences) _ _ refl

  no_drop : (past : List Entry) (t : Bool) (o : Option WaitingItem) → back (if t then drop_of past o else None) ≡ false
  no_drop past false o = refl
  no_drop past true None = refl
  no_drop past true (Some w) = refl

  no_shutter : (script : Script) (past : List Entry) (o : Option ℕ) → back (shutter_at script past o) ≡ false
  no_shutter script past None = refl
  no_shutter script past (Some m) = refl

  no_part : (script : Script) (past : List Entry) (m k : ℕ) (o : Option ℕ) → back (partial_of script past m k o) ≡ false
  no_part script past m k None = refl
  no_part script past m k (Some time) = tested (affects n s fences) _ _ refl

  no_with : (script : Script) (past : List Entry) (w : Queued) (o : Option (List Sent)) → back (send_with script past w o) ≡ false
  no_with script past w None = refl
  no_with script past w (Some ts) = refl

  no_next : (script : Script) (past : List Entry) (t : Bool) (w : Queued) → back (if t then send_with script past w (least_targets past (targets_in_order w.item)) else None) ≡ false
  no_next script past true w = no_with script past w (least_targets past (targets_in_order w.item))
  no_next script past false w = refl

  no_send : (script : Script) (past : List Entry) (o : Option Queued) → back (send_next script past o) ≡ false
  no_send script past None = refl
  no_send script past (Some w) = no_next script past (may_go script past w) w

  no_first : (script : Script) (past : List Entry) (m : ℕ) (o : Option Sent) → back (first_buffer_error script past m o) ≡ false
  no_first script past m None = refl
  no_first script past m (Some t) = tested (affects n s fences) _ _ refl

  no_error : (script : Script) (past : List Entry) (m : ℕ) → back (error_due script past m) ≡ false
  no_error script past m =
      either_in (affects n s fences) (failure_at script past m) (or_entry (error_request_due script past m) (or_entry (error_result_due script past m) (least_buffer_error script past m))) (tested (affects n s fences) _ _ refl)
      (either_in (affects n s fences) (error_request_due script past m) (or_entry (error_result_due script past m) (least_buffer_error script past m)) (tested (affects n s fences) _ _ refl)
      (either_in (affects n s fences) (error_result_due script past m) (least_buffer_error script past m) (tested (affects n s fences) _ _ refl)
      (no_first script past m (find (λ t. may_fail_buffer script past m t.stream.0) (targets_of m past)))))

  filled_own : (script : Script) (past : List Entry) (m u : ℕ) (o : Option Sent) → back (filled_of script past m u o) ≡ true → ((m == n) && (u == s)) ≡ true
  filled_own script past m u None h = absurd (false≢true h)
  filled_own script past m u (Some t) h = where_tested (affects n s fences) _ _ h

  failed_own : (past : List Entry) (m u : ℕ) (o : Option Sent) → back (failed_of past m u o) ≡ true → ((m == n) && (u == s)) ≡ true
  failed_own past m u None h = absurd (false≢true h)
  failed_own past m u (Some t) h = where_tested (affects n s fences) _ _ h

  early_own : (script : Script) (past : List Entry) (m u : ℕ) (o : Option Sent) → back (early_of script past m u o) ≡ true → ((m == n) && (u == s)) ≡ true
  early_own script past m u None h = absurd (false≢true h)
  early_own script past m u (Some t) h = where_tested (affects n s fences) _ _ h

  late_own : (script : Script) (past : List Entry) (d : ℕ) (o : Option Entry) → find (is_early_with d) past ≡ o → back (late_of script past d o) ≡ true → (k : FrameNo) × (t : StreamIx) × (b : BufferId) × (f : DeviceFenceNo) × (find (is_early_with d) past ≡ Some (EarlyEntry k t b f)) × (has_fence d fences ≡ true)
  late_own script past d None at h = absurd (false≢true h)
  late_own script past d (Some (EarlyEntry k t b f)) at h =
      elim (cases_Bool (is_late d past)) [
        | inl late ↦ (let h' = rw late at h in absurd (false≢true h'))
        | inr not' ↦ (let h' = rw not' at h in (k, t, b, f, at, h'))
      ]
  late_own script past d (Some _) at h = absurd (false≢true h)

-- the device fence of a target is signalled for it alone
finish_own : (script : Script) (past : List Entry) (m u n s : ℕ) (ds : List ℕ) → IsLegal script past → early_fences m u past ≡ ds → any_in (affects n s (early_fences n s past)) (late_with script past ds) ≡ true → ((m == n) && (u == s)) ≡ true
finish_own script past m u n s [] legal at h = absurd (false≢true h)
finish_own script past m u n s (d ∷ ds) legal at h =
    let own = late_own n s (early_fences n s past) script past d (find (is_early_with d) past) refl h in
    let k : FrameNo = own.0 in
    let t : StreamIx = own.1 in
    let has : has_fence d (early_fences m u past) ≡ true = rw at (or_left (d == d) (list_any (λ f. d == f) ds) (eq-eqb d d refl)) in
    let here = fence-frame script past d k t own.2 own.3 n s legal own.4 own.5 in
    let there = fence-frame script past d k t own.2 own.3 m u legal own.4 has in
    let a = and_parts (k.0 == n) (t.0 == s) here in
    let b = and_parts (k.0 == m) (t.0 == u) there in
    and_from (m == n) (u == s) (eq-eqb m n (sym (eqb-true k.0 m b.0) ∙ eqb-true k.0 n a.0)) (eq-eqb u s (sym (eqb-true t.0 u b.1) ∙ eqb-true t.0 s a.1))

-- ---- the entry of a move

added_entry : (step : StepName) (o : Option Entry) (m : Move) → adding step o ≡ Some m → m.entry ≡ o
added_entry step None m h = absurd (cc)
added_entry step (Some e) m h = let same : record { step = step; entry = Some e } ≡ m = cc in rw (← same) refl

silent_entry : (step : StepName) (t : Bool) (m : Move) → silent step t ≡ Some m → m.entry ≡ None
silent_entry step true m h = let same : record { step = step; entry = None } ≡ m = cc in rw (← same) refl
silent_entry step false m h = absurd (cc)

where_back : (p : Entry → Bool) (t : Bool) (o : Option Entry) → any_in p (where_entry t o) ≡ true → any_in p o ≡ true
where_back p true o h = h
where_back p false o h = absurd (false≢true h)

-- why the entry of a move may do so: the buffer was filled; or no job of it is out, and it comes back in error; or its fill is
-- out, and it comes back early
pub data Cause (h : List Move) (n s : ℕ) (fences : List ℕ) (o : Option Entry) : Type 0 where
  Ended : is_filled_in h n s ≡ true → Cause h n s fences o
  Free : is_sensor_out h n ≡ false → is_fill_out h n s ≡ false → any_in (brings n s) o ≡ true → Cause h n s fences o
  Lent : is_fill_out h n s ≡ true → any_in (λ e. settles n s e fences) o ≡ false → Cause h n s fences o

-- and the move ends or begins no job
pub record GivesBack (h : List Move) (n s : ℕ) (fences : List ℕ) (step : StepName) (o : Option Entry) : Type 0 where
  pub cause : Cause h n s fences o
  pub sensor : is_sensor_done n step ≡ false
  pub taken : is_take_fill n s step ≡ false
  pub filled : is_fill_done n s step ≡ false

failed_brings : (past : List Entry) (m u n s : ℕ) (o : Option Sent) (t : Bool) → ((m == n) && (u == s)) ≡ true → is_some (where_entry t (failed_of past m u o)) ≡ true → any_in (brings n s) (where_entry t (failed_of past m u o)) ≡ true
failed_brings past m u n s o false own some = absurd (false≢true some)
failed_brings past m u n s None true own some = absurd (false≢true some)
failed_brings past m u n s (Some t) true own some = by _ _ some own
  where
    by : (b : Bool) (x : Entry) → is_some (if b then Some x else None) ≡ true → brings n s x ≡ true → any_in (brings n s) (if b then Some x else None) ≡ true
    by true x some h = h
    by false x some h = absurd (false≢true some)

early_settles : (script : Script) (past : List Entry) (m u n s : ℕ) (fences : List ℕ) (o : Option Sent) (t : Bool) → any_in (λ e. settles n s e fences) (where_entry t (early_of script past m u o)) ≡ false
early_settles script past m u n s fences o false = refl
early_settles script past m u n s fences None true = refl
early_settles script past m u n s fences (Some t) true = tested (λ e. settles n s e fences) _ _ refl

in_some : (p : Entry → Bool) (o : Option Entry) → any_in p o ≡ true → is_some o ≡ true
in_some p None h = h
in_some p (Some e) h = refl

module _ (script : Script) (h : List Move) (m : Move) (n s : ℕ) (legal : IsLegal script (trace_of h)) where
  not_back : (step : StepName) (o : Option Entry) → adding step o ≡ Some m → any_in (affects n s (early_fences n s (trace_of h))) o ≡ false → any_in (affects n s (early_fences n s (trace_of h))) m.entry ≡ true → GivesBack h n s (early_fences n s (trace_of h)) step m.entry
  not_back step o made none back = let back' = rw (added_entry step o m made) at back in absurd (both_ways (any_in (affects n s (early_fences n s (trace_of h))) o) none back')

  not_silent : (step : StepName) (t : Bool) → silent step t ≡ Some m → any_in (affects n s (early_fences n s (trace_of h))) m.entry ≡ true → GivesBack h n s (early_fences n s (trace_of h)) step m.entry
  not_silent step t made back = let back' : false ≡ true = rw (silent_entry step t m made) at back in absurd (false≢true back')

  -- an entry of a target that does so is of this one
  of_target : (step : StepName) (k : FrameNo) (t : StreamIx) (test : Bool) (due : Option Entry) → adding step (where_entry test due) ≡ Some m → (any_in (affects n s (early_fences n s (trace_of h))) due ≡ true → ((k.0 == n) && (t.0 == s)) ≡ true) → any_in (affects n s (early_fences n s (trace_of h))) m.entry ≡ true → (k.0 ≡ n) × (t.0 ≡ s) × (test ≡ true)
  of_target step k t test due made own back =
      let back' = rw (added_entry step (where_entry test due) m made) at back in
      let same = and_parts (k.0 == n) (t.0 == s) (own (where_back (affects n s (early_fences n s (trace_of h))) test due back')) in
      (eqb-true k.0 n same.0, eqb-true t.0 s same.1, where_test step test due m made)

  gives_back : (step : StepName) → move_of script h step ≡ Some m → any_in (affects n s (early_fences n s (trace_of h))) m.entry ≡ true → GivesBack h n s (early_fences n s (trace_of h)) step m.entry
  gives_back Send made back = not_back Send (send_due script (trace_of h)) made (no_send n s (early_fences n s (trace_of h)) script (trace_of h) (next script (trace_of h))) back
  gives_back (Release b) made back = not_back (Release b) (release_due (trace_of h) b.0) made (tested (affects n s (early_fences n s (trace_of h))) _ _ refl) back
  gives_back (Signal f) made back = not_back (Signal f) (signal_due (trace_of h) f.0) made (tested (affects n s (early_fences n s (trace_of h))) _ _ refl) back
  gives_back Client made back = not_back Client (or_entry (begin_due script (trace_of h)) (call_due script (trace_of h))) made (either_in (affects n s (early_fences n s (trace_of h))) (begin_due script (trace_of h)) (call_due script (trace_of h)) (no_begin n s (early_fences n s (trace_of h)) (trace_of h) (next_command script (trace_of h))) (no_call n s (early_fences n s (trace_of h)) script (trace_of h) (next_command script (trace_of h)))) back
  gives_back DropQueued made back = not_back DropQueued (drop_due script (trace_of h)) made (no_drop n s (early_fences n s (trace_of h)) (trace_of h) (is_stopping (trace_of h)) (first_in (queued script (trace_of h)))) back
  gives_back (Fail k) made back = not_back (Fail k) (error_due script (trace_of h) k.0) made (no_error n s (early_fences n s (trace_of h)) script (trace_of h) k.0) back
  gives_back (ReturnFailed k t) made back =
      let o = where_entry (not (is_sensor_out h k.0) && not (is_fill_out h k.0 t.0)) (failed_due (trace_of h) k.0 t.0) in
      let back' = rw (added_entry (ReturnFailed k t) o m made) at back in
      let own = failed_own n s (early_fences n s (trace_of h)) (trace_of h) k.0 t.0 (target_of k.0 t.0 (trace_of h)) (where_back (affects n s (early_fences n s (trace_of h))) (not (is_sensor_out h k.0) && not (is_fill_out h k.0 t.0)) (failed_due (trace_of h) k.0 t.0) back') in
      let same = and_parts (k.0 == n) (t.0 == s) own in
      let test = where_test (ReturnFailed k t) (not (is_sensor_out h k.0) && not (is_fill_out h k.0 t.0)) (failed_due (trace_of h) k.0 t.0) m made in
      let parts = and_parts (not (is_sensor_out h k.0)) (not (is_fill_out h k.0 t.0)) test in
      record {
        cause = Free (rw (← eqb-true k.0 n same.0) (not-true (is_sensor_out h k.0) parts.0)) (rw (← eqb-true k.0 n same.0, ← eqb-true t.0 s same.1) (not-true (is_fill_out h k.0 t.0) parts.1)) (rw (added_entry (ReturnFailed k t) o m made) (failed_brings (trace_of h) k.0 t.0 n s (target_of k.0 t.0 (trace_of h)) (not (is_sensor_out h k.0) && not (is_fill_out h k.0 t.0)) own (in_some (affects n s (early_fences n s (trace_of h))) o back')));
        sensor = refl;
        taken = refl;
        filled = refl;
      }
  gives_back Shutter made back = not_back Shutter (shutter_due script (trace_of h)) made (no_shutter n s (early_fences n s (trace_of h)) script (trace_of h) (find (may_expose script (trace_of h)) (frames (trace_of h)))) back
  gives_back (SensorDone k) made back = absurd (let none : false ≡ true = rw (silent_entry (SensorDone k) (is_sensor_out h k.0) m made) at back in false≢true none)
  gives_back (Partial k) made back = not_back (Partial k) (partial_due script (trace_of h) k.0) made (no_part n s (early_fences n s (trace_of h)) script (trace_of h) k.0 (partial_count k.0 (trace_of h) + 1) (shutter_time k.0 (trace_of h))) back
  gives_back (TakeFill k t) made back = not_silent (TakeFill k t) (may_take_fill script h k.0 t.0) made back
  gives_back (FillDone k t) made back = not_silent (FillDone k t) (is_fill_out h k.0 t.0) made back
  gives_back (Deliver k t) made back =
      let of = of_target (Deliver k t) k t (is_filled_in h k.0 t.0) (filled_due script (trace_of h) k.0 t.0) made (filled_own n s (early_fences n s (trace_of h)) script (trace_of h) k.0 t.0 (target_of k.0 t.0 (trace_of h))) back in
      record { cause = Ended (rw (← of.0, ← of.1) of.2); sensor = refl; taken = refl; filled = refl }
  gives_back (Early k t) made back =
      let of = of_target (Early k t) k t (is_fill_out h k.0 t.0) (early_due script (trace_of h) k.0 t.0) made (early_own n s (early_fences n s (trace_of h)) script (trace_of h) k.0 t.0 (target_of k.0 t.0 (trace_of h))) back in
      record {
        cause = Lent (rw (← of.0, ← of.1) of.2) (rw (added_entry (Early k t) (where_entry (is_fill_out h k.0 t.0) (early_due script (trace_of h) k.0 t.0)) m made) (early_settles script (trace_of h) k.0 t.0 n s (early_fences n s (trace_of h)) (target_of k.0 t.0 (trace_of h)) (is_fill_out h k.0 t.0)));
        sensor = refl;
        taken = refl;
        filled = refl;
      }
  gives_back (Finish k t) made back =
      let of = of_target (Finish k t) k t (is_filled_in h k.0 t.0) (finish_due script (trace_of h) k.0 t.0) made (finish_own script (trace_of h) k.0 t.0 n s (early_fences k.0 t.0 (trace_of h)) legal refl) back in
      record { cause = Ended (rw (← of.0, ← of.1) of.2); sensor = refl; taken = refl; filled = refl }

-- ---- a fill that is out

with_more : (p : Entry → Bool) (o : Option Entry) (past : List Entry) → list_any p (with_entry o past) ≡ (any_in p o || list_any p past)
with_more p None past = refl
with_more p (Some e) past = refl

taken_now : (script : Script) (h : List Move) (step : StepName) (m : Move) (n s : ℕ) → move_of script h step ≡ Some m → is_take_fill n s step ≡ true → is_returned n s (trace_of h) ≡ false
taken_now script h (TakeFill k t) m n s made at =
    let may = silent_test (TakeFill k t) (may_take_fill script h k.0 t.0) m made in
    let same = and_parts (k.0 == n) (t.0 == s) at in
    let first = and_parts (is_open k.0 (trace_of h) && (is_sound script (trace_of h) k.0 t.0 && not (is_returned k.0 t.0 (trace_of h)))) ((not (is_taken_in h k.0 t.0) && (is_readout_home h k.0)) && target_is_passed (trace_of h) (target_of k.0 t.0 (trace_of h))) may in
    let second = and_parts (is_open k.0 (trace_of h)) (is_sound script (trace_of h) k.0 t.0 && not (is_returned k.0 t.0 (trace_of h))) first.0 in
    let third = and_parts (is_sound script (trace_of h) k.0 t.0) (not (is_returned k.0 t.0 (trace_of h))) second.1 in
    rw (← eqb-true k.0 n same.0, ← eqb-true t.0 s same.1) (not-true (is_returned k.0 t.0 (trace_of h)) third.1)
taken_now script h _ m n s made at = absurd (false≢true at)

out_parts : (a b c d : Bool) → ((a || b) && not (c || d)) ≡ true → ((a ≡ true) ⊎ (b ≡ true)) × (c ≡ false) × (d ≡ false)
out_parts true b false false h = (inl refl, refl, refl)
out_parts false true false false h = (inr refl, refl, refl)
out_parts _ _ _ _ h = absurd (false≢true h)

-- what an entry settles
settled_more : (script : Script) (past : List Entry) (o : Option Entry) (n s : ℕ) → IsLegal script (with_entry o past) → is_settled n s past ≡ false → any_in (λ e. settles n s e (early_fences n s past)) o ≡ false → is_settled n s (with_entry o past) ≡ false
settled_more script past None n s legal before now = before
settled_more script past (Some e) n s legal before now = settled-noted script past e n s legal ∙ rw (now, before) refl

-- a fill that is out is of a target that the device isn't done with
pub fill-kept : (script : Script) (h : List Move) (n s : ℕ) → IsRun script h → is_fill_out h n s ≡ true → is_settled n s (trace_of h) ≡ false
fill-kept script [] n s run out = absurd (false≢true out)
fill-kept script (m ∷ h) n s run out =
    let legal = runs_legally script (m ∷ h) run in
    let fences = early_fences n s (trace_of h) in
    let parts = out_parts (is_take_fill n s m.step) (is_taken_in h n s) (is_fill_done n s m.step) (is_filled_in h n s) out in
    let before : is_settled n s (trace_of h) ≡ false = elim parts.0 [
      | inl now ↦ not-settled n s (trace_of h) (taken_now script h m.step m n s run.0 now)
      | inr taken ↦ fill-kept script h n s run.1 (rw (taken, parts.2) refl)
    ] in
    settled_more script (trace_of h) m.entry n s legal before (elim (cases_Bool (any_in (λ e. settles n s e (early_fences n s (trace_of h))) m.entry)) [
      | inl back ↦ (
          let gives = gives_back script h m n s (runs_legally script h run.1) m.step run.0 (in_more (λ e. settles n s e (early_fences n s (trace_of h))) (affects n s (early_fences n s (trace_of h))) m.entry (λ e k. settle-affects n s (early_fences n s (trace_of h)) e k) back) in
          absurd (never script m h n s gives.cause back parts.2 (elim parts.0 [
            | inl now ↦ absurd (both_ways (is_take_fill n s m.step) gives.taken now)
            | inr taken ↦ taken
          ]))
          )
      | inr other ↦ other
    ])
  where
    never : (script : Script) (m : Move) (h : List Move) (n s : ℕ) → Cause h n s (early_fences n s (trace_of h)) m.entry → any_in (λ e. settles n s e (early_fences n s (trace_of h))) m.entry ≡ true → is_filled_in h n s ≡ false → is_taken_in h n s ≡ true → ⊥
    never script m h n s (Ended filled) back none taken = both_ways (is_filled_in h n s) none filled
    never script m h n s (Free sensor fill brought) back none taken = both_ways (is_fill_out h n s) fill (rw (taken, none) refl)
    never script m h n s (Lent out not') back none taken = both_ways (any_in (λ e. settles n s e (early_fences n s (trace_of h))) m.entry) not' back

-- ---- the sensor's job

exposed_back : (n s : ℕ) (o : Option Entry) → any_in (is_shutter n) o ≡ true → any_in (returns_target n s) o ≡ false
exposed_back n s (Some (ShutterEntry k time)) h = refl
exposed_back n s None h = absurd (false≢true h)
exposed_back n s (Some _) h = absurd (false≢true h)

any_return : (n s : ℕ) (e : Entry) → returns_target n s e ≡ true → returns_of_frame n e ≡ true
any_return n s (FilledEntry m t b f d) h = (and_parts (m.0 == n) (t.0 == s) h).0
any_return n s (FailedEntry m t b f) h = (and_parts (m.0 == n) (t.0 == s) h).0
any_return n s (EarlyEntry m t b d) h = (and_parts (m.0 == n) (t.0 == s) h).0
any_return n s _ h = absurd (false≢true h)

returned_something : (n s : ℕ) (past : List Entry) → is_returned n s past ≡ true → has_something n past ≡ true
returned_something n s past h = or_right (list_any (is_partial n) past) (list_any (returns_of_frame n) past || has_error n past) (or_left (list_any (returns_of_frame n) past) (has_error n past) (any-where (returns_target n s) (returns_of_frame n) past (any_return n s) h))

not_out : (a b : Bool) → b ≡ true → (a && not b) ≡ false
not_out true true h = refl
not_out false b h = refl
not_out true false h = absurd (false≢true h)

-- nothing came back of a frame whose shutter is due
exposed_now : (script : Script) (past : List Entry) (n s : ℕ) (o : Option Entry) → IsLegal script (with_entry o past) → any_in (is_shutter n) o ≡ true → is_returned n s past ≡ false
exposed_now script past n s (Some (ShutterEntry k time)) legal h =
    let is = exposed script past k time legal.0 in
    let shutter : has_shutter n past ≡ false = rw (← eqb-true k.0 n h) is.1 in
    let error : has_error n past ≡ false = rw (← eqb-true k.0 n h) is.2 in
    let request = no-request n past error in
    elim (cases_Bool (is_returned n s past)) [
      | inl back ↦ (let began = (caused script past n legal.1 (returned_something n s past back)).began in let wrong : false ≡ true = rw (shutter, request) at began in absurd (false≢true wrong))
      | inr other ↦ other
    ]
exposed_now script past n s None legal h = absurd (false≢true h)
exposed_now script past n s (Some _) legal h = absurd (false≢true h)

-- a buffer comes back only where the sensor is done
home : (script : Script) (h : List Move) (m : Move) (n s : ℕ) → IsRun script h → Cause h n s (early_fences n s (trace_of h)) m.entry → is_sensor_out h n ≡ false
home script h m n s run (Ended filled) = not_out (has_shutter n (trace_of h)) (is_sensor_done_in h n) (taken-done script h n s run (filled-taken script h n s run filled))
home script h m n s run (Free sensor fill brought) = sensor
home script h m n s run (Lent out not') = not_out (has_shutter n (trace_of h)) (is_sensor_done_in h n) (taken-done script h n s run (and_parts (is_taken_in h n s) (not (is_filled_in h n s)) out).0)

-- of a frame that the sensor still has no buffer came back
pub sensor-kept : (script : Script) (h : List Move) (n s : ℕ) → IsRun script h → is_sensor_out h n ≡ true → is_returned n s (trace_of h) ≡ false
sensor-kept script [] n s run out = absurd (false≢true out)
sensor-kept script (m ∷ h) n s run out =
    let legal = runs_legally script (m ∷ h) run in
    let out' : ((any_in (is_shutter n) m.entry || has_shutter n (trace_of h)) && not (is_sensor_done n m.step || is_sensor_done_in h n)) ≡ true = rw (← with_more (is_shutter n) m.entry (trace_of h)) out in
    let parts = out_parts (any_in (is_shutter n) m.entry) (has_shutter n (trace_of h)) (is_sensor_done n m.step) (is_sensor_done_in h n) out' in
    let before : is_returned n s (trace_of h) ≡ false = elim parts.0 [
      | inl now ↦ exposed_now script (trace_of h) n s m.entry legal now
      | inr had ↦ sensor-kept script h n s run.1 (rw (had, parts.2) refl)
    ] in
    elim (cases_Bool (any_in (returns_target n s) m.entry)) [
      | inl back ↦ (
          let gives = gives_back script h m n s (runs_legally script h run.1) m.step run.0 (in_more (returns_target n s) (affects n s (early_fences n s (trace_of h))) m.entry (λ e k. return-affects n s (early_fences n s (trace_of h)) e k) back) in
          absurd (elim parts.0 [
            | inl now ↦ both_ways (any_in (returns_target n s) m.entry) (exposed_back n s m.entry now) back
            | inr had ↦ both_ways (is_sensor_out h n) (home script h m n s run.1 gives.cause) (rw (had, parts.2) refl)
          ])
          )
      | inr other ↦ with_more (returns_target n s) m.entry (trace_of h) ∙ rw (other, before) refl
    ]

-- ---- what came back early was taken

pub lent-taken : (script : Script) (h : List Move) (n s : ℕ) → IsRun script h → is_returned n s (trace_of h) ≡ true → list_any (brings n s) (trace_of h) ≡ false → is_taken_in h n s ≡ true
lent-taken script [] n s run back none = absurd (false≢true back)
lent-taken script (m ∷ h) n s run back none =
    let back' : (any_in (returns_target n s) m.entry || is_returned n s (trace_of h)) ≡ true = rw (← with_more (returns_target n s) m.entry (trace_of h)) back in
    let none' : (any_in (brings n s) m.entry || list_any (brings n s) (trace_of h)) ≡ false = rw (← with_more (brings n s) m.entry (trace_of h)) none in
    let parts = or_parts (any_in (brings n s) m.entry) (list_any (brings n s) (trace_of h)) none' in
    or_right (is_take_fill n s m.step) (is_taken_in h n s) (elim (cases_Bool (any_in (returns_target n s) m.entry)) [
      | inl now ↦ (
          let gives = gives_back script h m n s (runs_legally script h run.1) m.step run.0 (in_more (returns_target n s) (affects n s (early_fences n s (trace_of h))) m.entry (λ e k. return-affects n s (early_fences n s (trace_of h)) e k) now) in
          by script h m n s run.1 gives.cause parts.0
          )
      | inr other ↦ (let before = rw other at back' in lent-taken script h n s run.1 before parts.1)
    ])
  where
    by : (script : Script) (h : List Move) (m : Move) (n s : ℕ) → IsRun script h → Cause h n s (early_fences n s (trace_of h)) m.entry → any_in (brings n s) m.entry ≡ false → is_taken_in h n s ≡ true
    by script h m n s run (Ended filled) none = filled-taken script h n s run filled
    by script h m n s run (Free sensor fill brought) none = absurd (both_ways (any_in (brings n s) m.entry) none brought)
    by script h m n s run (Lent out not') none = (and_parts (is_taken_in h n s) (not (is_filled_in h n s)) out).0
