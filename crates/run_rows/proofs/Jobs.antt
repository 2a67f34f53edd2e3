-- What a move of a run tells of the jobs behind it: a buffer comes back with its picture where it is filled, early where a stage
-- fills it, and in error where no job of it is out.
use Rattle.std.proofs.Common.{◌≡◌, ℕ, ◌==◌, ◌+◌, Bool, true, false, ◌&&◌, not, List, [], ◌∷◌, Option, Some, None, refl, ap, ◌∙◌, inl, inr, find, if◌then◌else◌}
use Rattle.std.specs.List.{list_any}
use Rattle.std.proofs.lemmas.Bool.{and_parts, cases_Bool, eqb-true, false≢true, or_right}
use Rattle.cam_types.specs.declared.script.Script.{Script}
use Rattle.trace_model.specs.declared.entry.Entry.{Entry}
use Rattle.trace_model.specs.declared.entry.Entry.TheVariants.{Filled, Failed, Early as EarlyEntry, Late as LateEntry}
use Rattle.trace_model.specs.declared.entry.Sent.{Sent}
use Rattle.trace_model.specs.Client.{begin_due}
use Rattle.trace_model.specs.Calls.{next_command}
use Rattle.trace_model.specs.Entry.{is_early_with, signals}
use Rattle.trace_model.specs.Errors.{failed_due}
use Rattle.trace_model.specs.Fence.{is_passed}
use Rattle.trace_model.specs.Filled.{filled_due, early_due}
use Rattle.trace_model.specs.Frames.{frames, is_sent, shutter_time, target_of}
use Rattle.trace_model.specs.Open.{early_fences}
use Rattle.trace_model.specs.Partial.{partial_count}
use Rattle.trace_model.specs.Queue.{first_in, next, queued}
use Rattle.cam_types.specs.declared.number.FenceNo.{FenceNo}
use Rattle.cam_types.specs.declared.request.Queued.{Queued}
use Rattle.trace_model.specs.Shutter.{may_expose}
use Rattle.trace_model.specs.Stopping.{is_stopping}
use Rattle.run_model.specs.declared.step.Move.{Move}
use Rattle.run_model.specs.declared.step.StepName.{StepName}
use Rattle.run_model.specs.declared.step.StepName.TheVariants.{Send, Release, Signal, Client, DropQueued, Fail, ReturnFailed, Shutter, SensorDone, Partial, TakeFill, FillDone, Deliver, Early, Finish}
use Rattle.run_model.specs.History.{trace_of, with_entry, is_fill_done, is_take_fill}
use Rattle.run_model.specs.Jobs.{is_fill_out, is_filled_in, is_sensor_out, is_taken_in}
use Rattle.run_model.specs.Ready.{adding, finish_due, late_with, may_take_fill, move_of, target_is_passed}
use Rattle.run_model.specs.Rows.{is_early_return, is_ok_return}
use Rattle.run_model.specs.Run.{IsRun}
use Rattle.run_model.proofs.Entries.{open-sent}
use Rattle.run_model.proofs.Legal.{adds, adds-none, begin_shape, by_test, call_shape, drop_shape, early_shape, failed_shape, filled_shape, part_shape, runs_legally, shutter_shape, where-entry}
use Rattle.run_model.proofs.Targets.{targets-same}
use Rattle.run_model.proofs.Unsent.{done-shot, take-parts, take-ready, taken-done}
use Rattle.trace_laws.proofs.Shutters.{shutter-sent}
use Rattle.run_model.proofs.Shapes.{error-shape, late-shape, or-shape, send-shape}

-- ---- what stands behind an entry

-- the signal of a device fence is of the buffer that the step names, which is filled
pub record FinishOf (h : List Move) (n s d : ℕ) : Type 0 where
  pub filled : is_filled_in h n s ≡ true
  pub rest : List ℕ
  pub fences : early_fences n s (trace_of h) ≡ d ∷ rest

abbrev pub FinishedBy : List Move → StepName → ℕ → Type 0
FinishedBy h (Finish n s) d = FinishOf h n.0 s.0 d
FinishedBy h _ d = ⊥

-- the jobs that stand behind the entry of a step
abbrev pub Behind : List Move → StepName → Entry → Type 0
Behind h step (Filled n s _ _ _) = is_filled_in h n.0 s.0 ≡ true
Behind h step (Failed n s _ _) = (not (is_sensor_out h n.0) && not (is_fill_out h n.0 s.0)) ≡ true
Behind h step (EarlyEntry n s _ _) = is_fill_out h n.0 s.0 ≡ true
Behind h step (LateEntry d _) = FinishedBy h step d.0
Behind h step _ = Unit {0}

abbrev pub BehindIn : List Move → StepName → Option Entry → Type 0
BehindIn h step (Some e) = Behind h step e
BehindIn h step None = Unit {0}

pub finish-shape : (P : Entry → Type 0) (script : Script) (h : List Move) (n s : ℕ) (fences : List ℕ) (e : Entry) → is_filled_in h n s ≡ true → early_fences n s (trace_of h) ≡ fences → late_with script (trace_of h) fences ≡ Some e → ((d : ℕ) (x : List ℕ) → FinishOf h n s d → P (LateEntry (record { 0 = d }) x)) → P e
finish-shape P script h n s [] e filled at due each = absurd (cc)
finish-shape P script h n s (d ∷ ds) e filled at due each =
    late-shape P script (trace_of h) d (find (is_early_with d) (trace_of h)) e due (λ x. each d x (record { filled = filled; rest = ds; fences = at }))

adds-behind : (h : List Move) (step : StepName) (o : Option Entry) (m : Move) → adding step o ≡ Some m → ((e : Entry) → o ≡ Some e → Behind h step e) → BehindIn h step m.entry
adds-behind h step o m at each = let a = adds step o m at in let behind = each a.0 a.1 in rw a.2 behind

pub move-behind : (script : Script) (h : List Move) (step : StepName) (m : Move) → move_of script h step ≡ Some m → BehindIn h step m.entry
move-behind script h Send m k = adds-behind h Send _ m k (λ e d. send-shape (Behind h Send) script (trace_of h) e d (λ w ts. tt))
move-behind script h (Release b) m k = adds-behind h (Release b) _ m k (λ e d. by_test (Behind h (Release b)) _ _ e d (λ t. tt))
move-behind script h (Signal f) m k = adds-behind h (Signal f) _ m k (λ e d. by_test (Behind h (Signal f)) _ _ e d (λ t. tt))
move-behind script h Client m k =
    adds-behind h Client _ m k
    (λ e d. or-shape (Behind h Client) (begin_due script (trace_of h)) _ e d (λ x l. begin_shape (Behind h Client) (trace_of h) (next_command script (trace_of h)) x l (λ c. tt)) (λ x l. call_shape (Behind h Client) script (trace_of h) (next_command script (trace_of h)) x l (λ c. tt)))
move-behind script h DropQueued m k = adds-behind h DropQueued _ m k (λ e d. drop_shape (Behind h DropQueued) (trace_of h) (is_stopping (trace_of h)) (first_in (queued script (trace_of h))) e d (λ w. tt))
move-behind script h (Fail f) m k = adds-behind h (Fail f) _ m k (λ e d. error-shape (Behind h (Fail f)) script (trace_of h) f.0 e d tt tt tt (λ s. tt))
move-behind script h (ReturnFailed f t) m k =
    adds-behind h (ReturnFailed f t) _ m k
    (λ e d.
    let both = where-entry (not (is_sensor_out h f.0) && not (is_fill_out h f.0 t.0)) (failed_due (trace_of h) f.0 t.0) e d in
    failed_shape (Behind h (ReturnFailed f t)) (trace_of h) f.0 t.0 (target_of f.0 t.0 (trace_of h)) e both.1 (λ u. both.0))
move-behind script h Shutter m k = adds-behind h Shutter _ m k (λ e d. shutter_shape (Behind h Shutter) script (trace_of h) (find (may_expose script (trace_of h)) (frames (trace_of h))) e d (λ i. tt))
move-behind script h (SensorDone f) m k = rw (adds-none (SensorDone f) (is_sensor_out h f.0) m k).1 tt
move-behind script h (Partial f) m k = adds-behind h (Partial f) _ m k (λ e d. part_shape (Behind h (Partial f)) script (trace_of h) f.0 (partial_count f.0 (trace_of h) + 1) (shutter_time f.0 (trace_of h)) e d (λ part. tt))
move-behind script h (TakeFill f t) m k = rw (adds-none (TakeFill f t) (may_take_fill script h f.0 t.0) m k).1 tt
move-behind script h (FillDone f t) m k = rw (adds-none (FillDone f t) (is_fill_out h f.0 t.0) m k).1 tt
move-behind script h (Deliver f t) m k =
    adds-behind h (Deliver f t) _ m k
    (λ e d.
    let both = where-entry (is_filled_in h f.0 t.0) (filled_due script (trace_of h) f.0 t.0) e d in
    filled_shape (Behind h (Deliver f t)) script (trace_of h) f.0 t.0 (target_of f.0 t.0 (trace_of h)) e both.1 (λ u. both.0))
move-behind script h (Early f t) m k =
    adds-behind h (Early f t) _ m k
    (λ e d.
    let both = where-entry (is_fill_out h f.0 t.0) (early_due script (trace_of h) f.0 t.0) e d in
    early_shape (Behind h (Early f t)) script (trace_of h) f.0 t.0 (target_of f.0 t.0 (trace_of h)) e both.1 (λ u. both.0))
move-behind script h (Finish f t) m k =
    adds-behind h (Finish f t) _ m k
    (λ e d.
    let both = where-entry (is_filled_in h f.0 t.0) (finish_due script (trace_of h) f.0 t.0) e d in
    finish-shape (Behind h (Finish f t)) script h f.0 t.0 (early_fences f.0 t.0 (trace_of h)) e both.0 refl both.1 (λ g x is. is))

-- ---- so an early return is of a buffer that a stage took, and its fence is passed

pub still-taken : (m : Move) (h : List Move) (n s : ℕ) → is_taken_in h n s ≡ true → is_taken_in (m ∷ h) n s ≡ true
still-taken m h n s is = or_right (is_take_fill n s m.step) (is_taken_in h n s) is

early-by : (script : Script) (h : List Move) (n s : ℕ) (step : StepName) (o : Option Entry) → BehindIn h step o → list_any (is_early_return n s) (with_entry o (trace_of h)) ≡ true → (list_any (is_early_return n s) (trace_of h) ≡ true → is_taken_in h n s ≡ true) → is_taken_in h n s ≡ true
early-by script h n s step None behind is before = before is
early-by script h n s step (Some (EarlyEntry k t b d)) behind is before =
    elim (cases_Bool ((k.0 == n) && (t.0 == s))) [
      | inl here ↦ (
          let parts = and_parts (k.0 == n) (t.0 == s) here in
          let out : is_fill_out h n s ≡ true = rw (eqb-true k.0 n parts.0, eqb-true t.0 s parts.1) at behind in
          (and_parts (is_taken_in h n s) (not (is_filled_in h n s)) out).0
          )
      | inr other ↦ (let is' = rw other at is in before is')
    ]
early-by script h n s step (Some e) behind is before = before is

pub early-taken : (script : Script) (h : List Move) (n s : ℕ) → IsRun script h → list_any (is_early_return n s) (trace_of h) ≡ true → is_taken_in h n s ≡ true
early-taken script [] n s run is = absurd (false≢true is)
early-taken script (m ∷ h) n s run is =
    still-taken m h n s (early-by script h n s m.step m.entry (move-behind script h m.step m run.0) is (early-taken script h n s run.1))

ok-by : (h : List Move) (n s : ℕ) (step : StepName) (o : Option Entry) → BehindIn h step o → list_any (is_ok_return n s) (with_entry o (trace_of h)) ≡ true → (list_any (is_ok_return n s) (trace_of h) ≡ true → is_filled_in h n s ≡ true) → is_filled_in h n s ≡ true
ok-by h n s step None behind is before = before is
ok-by h n s step (Some (Filled k t b f d)) behind is before =
    elim (cases_Bool ((k.0 == n) && (t.0 == s))) [
      | inl here ↦ (
          let parts = and_parts (k.0 == n) (t.0 == s) here in
          rw (eqb-true k.0 n parts.0, eqb-true t.0 s parts.1) at behind
          )
      | inr other ↦ (let is' = rw other at is in before is')
    ]
ok-by h n s step (Some e) behind is before = before is

pub ok-filled : (script : Script) (h : List Move) (n s : ℕ) → IsRun script h → list_any (is_ok_return n s) (trace_of h) ≡ true → is_filled_in h n s ≡ true
ok-filled script [] n s run is = absurd (false≢true is)
ok-filled script (m ∷ h) n s run is =
    or_right (is_fill_done n s m.step) (is_filled_in h n s) (ok-by h n s m.step m.entry (move-behind script h m.step m run.0) is (ok-filled script h n s run.1))

-- ---- a buffer that a stage took has its acquire fence passed

passed-more : (o : Option Entry) (past : List Entry) (t : Option Sent) → target_is_passed past t ≡ true → target_is_passed (with_entry o past) t ≡ true
passed-more None past t h = h
passed-more (Some e) past None h = h
passed-more (Some e) past (Some t) h = more t.fence h
  where
    more : (f : Option FenceNo) → is_passed f past ≡ true → is_passed f (e ∷ past) ≡ true
    more None h = refl
    more (Some f) h = or_right (signals f.0 e) (list_any (signals f.0) past) h

taken-sent : (script : Script) (h : List Move) (n s : ℕ) → IsRun script h → is_taken_in h n s ≡ true → is_sent n (trace_of h) ≡ true
taken-sent script h n s run is = shutter-sent script (trace_of h) n (runs_legally script h run) (done-shot script h n run (taken-done script h n s run is))

pub taken-passed : (script : Script) (h : List Move) (n s : ℕ) → IsRun script h → is_taken_in h n s ≡ true → target_is_passed (trace_of h) (target_of n s (trace_of h)) ≡ true
taken-passed script [] n s run is = absurd (false≢true is)
taken-passed script (m ∷ h) n s run is =
    let past = trace_of h in
    let before : (target_is_passed past (target_of n s past) ≡ true) × (is_sent n past ≡ true) = elim (cases_Bool (is_take_fill n s m.step)) [
      | inl here ↦ (let may = take-parts script h n s (take-ready script h m.step m n s run.0 here) in (may.passed, open-sent n past may.open_))
      | inr other ↦ (let is' = rw other at is in (taken-passed script h n s run.1 is', taken-sent script h n s run.1 is'))
    ] in
    ap (λ (ts : List Sent). target_is_passed (trace_of (m ∷ h)) (find (λ t. t.stream.0 == s) ts)) (targets-same script past m.entry n (runs_legally script (m ∷ h) run) before.1)
    ∙ passed-more m.entry past (target_of n s past) before.0
