-- What a buffer that comes back makes of its frame's row.
use Rattle.std.proofs.Common.{◌≡◌, ℕ, ◌==◌, Bool, true, false, ◌&&◌, ◌||◌, List, ◌∷◌, Option, Some, refl, sym, ap, ◌∙◌, inl, inr, find}
use Rattle.std.specs.List.{list_any}
use Rattle.std.proofs.lemmas.Bool.{and_parts, cases_Bool, eq-eqb, eqb-true, false≢true, or_parts}
use Rattle.run_rows.proofs.General.{third}
use Rattle.cam_types.specs.declared.number.BufferId.{BufferId}
use Rattle.cam_types.specs.declared.number.DeviceFenceNo.{DeviceFenceNo}
use Rattle.cam_types.specs.declared.number.FenceNo.{FenceNo}
use Rattle.cam_types.specs.declared.number.FrameNo.{FrameNo}
use Rattle.cam_types.specs.declared.number.StreamIx.{StreamIx}
use Rattle.cam_types.specs.declared.row.TargetState.TheVariants.{ReturnedEarly, ReturnedOk, ReturnedFailed}
use Rattle.cam_types.specs.declared.script.Script.{Script}
use Rattle.trace_model.specs.declared.entry.Entry.TheVariants.{Filled, Failed, Early as EarlyEntry, Late as LateEntry}
use Rattle.trace_model.specs.Entry.{brings, is_early_with}
use Rattle.trace_model.specs.Frames.{is_sent, targets_of}
use Rattle.trace_model.specs.Open.{early_fences, is_returned, is_settled}
use Rattle.run_model.specs.declared.step.Move.{Move}
use Rattle.run_model.specs.declared.step.StepName.{StepName}
use Rattle.run_model.specs.History.{trace_of}
use Rattle.run_model.specs.Jobs.{is_fill_out, is_filled_in}
use Rattle.run_model.specs.Rows.{row_of, target_state}
use Rattle.run_model.specs.Run.{IsRun}
use Rattle.device_rows.specs.Rows.{delivered, gone_early, returned_failed}
use Rattle.basic_lemmas.proofs.Tests.{and-false, eq-turned, own-number}
use Rattle.run_model.proofs.Legal.{runs_legally}
use Rattle.trace_laws.proofs.Early.{given}
use Rattle.trace_laws.proofs.Once.{out-not-returned}
use Rattle.trace_laws.proofs.Returns.{early-back, failed-back}
use Rattle.trace_laws.specs.Settled.{has_fence}
use Rattle.trace_laws.proofs.Settled.{fence-frame}
use Rattle.trace_laws.proofs.Shapes.{late-is}
use Rattle.run_rows.proofs.Changes.{state-row}
use Rattle.run_rows.proofs.Fills.{is-here}
use Rattle.run_rows.proofs.Jobs.{FinishOf}
use Rattle.run_rows.proofs.Noted.{state-noted, state-stays, state-views}
use Rattle.run_rows.proofs.States.{brought-kinds, returned-kinds, state_by, was_bad, was_early, was_ok}

-- an entry of another stream's buffer isn't of this one
pub other-stream : (n s u : ℕ) → (u == s) ≡ false → ((n == n) && (s == u)) ≡ false
other-stream n s u other = rw (eq-turned s u other) (and-false (n == n))

pub own-stream : (n s : ℕ) → ((n == n) && (s == s)) ≡ true
own-stream n s = rw (own-number n, own-number s) refl

-- ---- with its picture

filled-state : (script : Script) (h : List Move) (step : StepName) (n : FrameNo) (s : StreamIx) (b : BufferId) (f : Option FenceNo) (d : List ℕ) → IsRun script (record { step = step; entry = Some (Filled n s b f d) } ∷ h) → target_state (record { step = step; entry = Some (Filled n s b f d) } ∷ h) n.0 s.0 ≡ ReturnedOk
filled-state script h step n s b f d run = state-noted script h step (Filled n s b f d) n.0 s.0 run ∙ rw (own-stream n.0 s.0) refl

pub filled-row : (script : Script) (h : List Move) (step : StepName) (n : FrameNo) (s : StreamIx) (b : BufferId) (f : Option FenceNo) (d : List ℕ) → IsRun script (record { step = step; entry = Some (Filled n s b f d) } ∷ h) → is_sent n.0 (trace_of h) ≡ true → row_of script (record { step = step; entry = Some (Filled n s b f d) } ∷ h) n.0 ≡ delivered s (row_of script h n.0)
filled-row script h step n s b f d run sent =
    let e = Filled n s b f d in
    let m : Move = record { step = step; entry = Some e } in
    state-row script h step e n.0 s ReturnedOk run sent
    (state-views (m ∷ h) h n.0 s.0 ReturnedOk (targets_of n.0 (trace_of h)) (λ u. refl)
    (λ u other. let off = other-stream n.0 s.0 u other in state-stays script h step e n.0 u run off refl refl off)
    (filled-state script h step n s b f d run))
    refl refl

-- ---- in error

failed-state : (script : Script) (h : List Move) (step : StepName) (n : FrameNo) (s : StreamIx) (b : BufferId) (f : Option FenceNo) → IsRun script (record { step = step; entry = Some (Failed n s b f) } ∷ h) → target_state (record { step = step; entry = Some (Failed n s b f) } ∷ h) n.0 s.0 ≡ ReturnedFailed
failed-state script h step n s b f run =
    let e = Failed n s b f in
    let past = trace_of h in
    let legal = runs_legally script (record { step = step; entry = Some e } ∷ h) run in
    let here = is-here h n.0 s.0 (out-not-returned script past n.0 s.0 b.0 legal.1 (failed-back past n s b f legal.0).out) in
    state-noted script h step e n.0 s.0 run ∙ rw (own-stream n.0 s.0, here.ok) refl

pub failed-row : (script : Script) (h : List Move) (step : StepName) (n : FrameNo) (s : StreamIx) (b : BufferId) (f : Option FenceNo) → IsRun script (record { step = step; entry = Some (Failed n s b f) } ∷ h) → is_sent n.0 (trace_of h) ≡ true → row_of script (record { step = step; entry = Some (Failed n s b f) } ∷ h) n.0 ≡ returned_failed s (row_of script h n.0)
failed-row script h step n s b f run sent =
    let e = Failed n s b f in
    let m : Move = record { step = step; entry = Some e } in
    state-row script h step e n.0 s ReturnedFailed run sent
    (state-views (m ∷ h) h n.0 s.0 ReturnedFailed (targets_of n.0 (trace_of h)) (λ u. refl)
    (λ u other. let off = other-stream n.0 s.0 u other in state-stays script h step e n.0 u run refl off refl off)
    (failed-state script h step n s b f run))
    refl refl

-- ---- early

early-state : (script : Script) (h : List Move) (step : StepName) (n : FrameNo) (s : StreamIx) (b : BufferId) (d : DeviceFenceNo) → IsRun script (record { step = step; entry = Some (EarlyEntry n s b d) } ∷ h) → is_fill_out h n.0 s.0 ≡ true → target_state (record { step = step; entry = Some (EarlyEntry n s b d) } ∷ h) n.0 s.0 ≡ ReturnedEarly
early-state script h step n s b d run out =
    let e = EarlyEntry n s b d in
    let past = trace_of h in
    let legal = runs_legally script (record { step = step; entry = Some e } ∷ h) run in
    let here = is-here h n.0 s.0 (out-not-returned script past n.0 s.0 b.0 legal.1 (early-back script past n s b d legal.0).out) in
    state-noted script h step e n.0 s.0 run
    ∙ by ((n.0 == n.0) && (s.0 == s.0)) (was_ok h n.0 s.0) (was_bad h n.0 s.0) (was_early h n.0 s.0) (is_settled n.0 s.0 past) (is_fill_out h n.0 s.0) (is_filled_in h n.0 s.0) (own-stream n.0 s.0) here.ok here.bad here.open_ out
  where
    by : (own ok bad early settled out filled : Bool) → own ≡ true → ok ≡ false → bad ≡ false → settled ≡ false → out ≡ true → state_by ok bad (own || early) settled out filled ≡ ReturnedEarly
    by own ok bad early settled out filled a b c d e = rw (a, b, c, d, e) refl

pub early-row : (script : Script) (h : List Move) (step : StepName) (n : FrameNo) (s : StreamIx) (b : BufferId) (d : DeviceFenceNo) → IsRun script (record { step = step; entry = Some (EarlyEntry n s b d) } ∷ h) → is_fill_out h n.0 s.0 ≡ true → is_sent n.0 (trace_of h) ≡ true → row_of script (record { step = step; entry = Some (EarlyEntry n s b d) } ∷ h) n.0 ≡ gone_early s (row_of script h n.0)
early-row script h step n s b d run out sent =
    let e = EarlyEntry n s b d in
    let m : Move = record { step = step; entry = Some e } in
    state-row script h step e n.0 s ReturnedEarly run sent
    (state-views (m ∷ h) h n.0 s.0 ReturnedEarly (targets_of n.0 (trace_of h)) (λ u. refl)
    (λ u other. state-stays script h step e n.0 u run refl refl (other-stream n.0 s.0 u other) refl)
    (early-state script h step n s b d run out))
    refl refl

-- ---- the picture of an early return is there

-- the device fence that is signalled is of the buffer that the step names, and of no other
pub record LateOf (h : List Move) (n s d : ℕ) : Type 0 where
  pub own : has_fence d (early_fences n s (trace_of h)) ≡ true
  pub bad : was_bad h n s ≡ false
  pub early : was_early h n s ≡ true
  pub only : (m u : ℕ) → has_fence d (early_fences m u (trace_of h)) ≡ true → (n ≡ m) × (s ≡ u)

pub late-of : (script : Script) (h : List Move) (step : StepName) (n s : ℕ) (d : DeviceFenceNo) (x : List ℕ) → IsRun script (record { step = step; entry = Some (LateEntry d x) } ∷ h) → FinishOf h n s d.0 → LateOf h n s d.0
late-of script h step n s d x run finish =
    let past = trace_of h in
    let legal = runs_legally script (record { step = step; entry = Some (LateEntry d x) } ∷ h) run in
    let is = late-is script past d x legal.0 in
    let k : FrameNo = is.0 in
    let t : StreamIx = is.1 in
    let b : BufferId = is.2 in
    let f : DeviceFenceNo = is.3 in
    let found : find (is_early_with d.0) past ≡ Some (EarlyEntry k t b f) = is.4 in
    let own : has_fence d.0 (early_fences n s past) ≡ true = ap (λ (fs : List ℕ). has_fence d.0 fs) finish.fences ∙ rw (own-number d.0) refl in
    let at = same k.0 t.0 n s (fence-frame script past d.0 k t b f n s legal.1 found own) in
    let g = given script past d.0 k t b f legal.1 found in
    let kinds = or_parts (was_ok h n s) (was_bad h n s) (brought-kinds n s past ∙ (ap (λ (i : ℕ). list_any (brings i s) past) (sym at.0) ∙ (ap (λ (i : ℕ). list_any (brings k.0 i) past) (sym at.1) ∙ g.brought))) in
    let returned : is_returned n s past ≡ true = ap (λ (i : ℕ). is_returned i s past) (sym at.0) ∙ (ap (λ (i : ℕ). is_returned k.0 i past) (sym at.1) ∙ g.returned) in
    record {
      own = own;
      bad = kinds.1;
      early = third (was_ok h n s) (was_bad h n s) (was_early h n s) (returned-kinds n s past ∙ returned) kinds.0 kinds.1;
      only = λ m u has. let other = same k.0 t.0 m u (fence-frame script past d.0 k t b f m u legal.1 found has) in (sym at.0 ∙ other.0, sym at.1 ∙ other.1);
    }
  where
    same : (k t m u : ℕ) → ((k == m) && (t == u)) ≡ true → (k ≡ m) × (t ≡ u)
    same k t m u h = let parts = and_parts (k == m) (t == u) h in (eqb-true k m parts.0, eqb-true t u parts.1)

-- no other buffer has it
pub late-free : (h : List Move) (n s d m u : ℕ) → LateOf h n s d → (m == n) ≡ false → has_fence d (early_fences m u (trace_of h)) ≡ false
late-free h n s d m u is other = elim (cases_Bool (has_fence d (early_fences m u (trace_of h)))) [
  | inl has ↦ absurd (false≢true (sym other ∙ eq-eqb m n (sym (is.only m u has).0)))
  | inr no' ↦ no'
]

late-apart : (h : List Move) (n s d u : ℕ) → LateOf h n s d → (u == s) ≡ false → has_fence d (early_fences n u (trace_of h)) ≡ false
late-apart h n s d u is other = elim (cases_Bool (has_fence d (early_fences n u (trace_of h)))) [
  | inl has ↦ absurd (false≢true (sym other ∙ eq-eqb u s (sym (is.only n u has).1)))
  | inr no' ↦ no'
]

late-state : (script : Script) (h : List Move) (step : StepName) (n s : ℕ) (d : DeviceFenceNo) (x : List ℕ) → IsRun script (record { step = step; entry = Some (LateEntry d x) } ∷ h) → LateOf h n s d.0 → target_state (record { step = step; entry = Some (LateEntry d x) } ∷ h) n s ≡ ReturnedOk
late-state script h step n s d x run is =
    state-noted script h step (LateEntry d x) n s run
    ∙ by (was_ok h n s) (was_bad h n s) (was_early h n s) (has_fence d.0 (early_fences n s (trace_of h))) (is_settled n s (trace_of h)) (is_fill_out h n s) (is_filled_in h n s) is.bad is.early is.own
  where
    by : (ok bad early has settled out filled : Bool) → bad ≡ false → early ≡ true → has ≡ true → state_by ok bad early (has || settled) out filled ≡ ReturnedOk
    by true bad early has settled out filled a b c = refl
    by false bad early has settled out filled a b c = rw (a, b, c) refl

pub late-row : (script : Script) (h : List Move) (step : StepName) (n s : ℕ) (t : StreamIx) (d : DeviceFenceNo) (x : List ℕ) → IsRun script (record { step = step; entry = Some (LateEntry d x) } ∷ h) → s ≡ t.0 → LateOf h n s d.0 → is_sent n (trace_of h) ≡ true → row_of script (record { step = step; entry = Some (LateEntry d x) } ∷ h) n ≡ delivered t (row_of script h n)
late-row script h step n s t d x run at is sent =
    let e = LateEntry d x in
    let m : Move = record { step = step; entry = Some e } in
    let is' : LateOf h n t.0 d.0 = rw at at is in
    state-row script h step e n t ReturnedOk run sent
    (state-views (m ∷ h) h n t.0 ReturnedOk (targets_of n (trace_of h)) (λ u. refl)
    (λ u other. state-stays script h step e n u run refl refl refl (late-apart h n t.0 d.0 u is' other))
    (late-state script h step n t.0 d x run is'))
    refl refl
