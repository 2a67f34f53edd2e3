-- What each move of a run makes of the device's rows.
use Rattle.std.proofs.Common.{◌≡◌, ℕ, ◌==◌, true, false, List, ◌∷◌, Some, refl, sym, ap, ◌∙◌, inl, inr, filter, map, if◌then◌else◌}
use Rattle.std.proofs.lemmas.Bool.{cases_Bool, eq-eqb, eqb-true, false≢true}
use Rattle.std.proofs.lemmas.List.{map-id}
use Rattle.cam_types.specs.Four.{four_of}
use Rattle.cam_types.specs.Rows as view
use Rattle.cam_types.specs.declared.four.Four.{Four}
use Rattle.cam_types.specs.declared.number.FrameNo.{FrameNo}
use Rattle.cam_types.specs.declared.number.StreamIx.{StreamIx}
use Rattle.cam_types.specs.declared.partial_result.PartialResult.{PartialResult}
use Rattle.cam_types.specs.declared.row.RowView.{RowView}
use Rattle.cam_types.specs.declared.row.SensorPlace.TheVariants.{Out as SensorOut}
use Rattle.cam_types.specs.declared.row.TargetState.{TargetState}
use Rattle.cam_types.specs.declared.row.TargetView.{TargetView}
use Rattle.cam_types.specs.declared.script.Script.{Script}
use Rattle.trace_model.specs.declared.entry.Entry.{Entry}
use Rattle.trace_model.specs.declared.entry.Entry.TheVariants.{Begin, Shutter as ShutterEntry, Partial as PartialEntry, ErrorRequest, ErrorResult, ErrorBuffer, ErrorDevice}
use Rattle.trace_model.specs.declared.entry.Sent.{Sent}
use Rattle.trace_model.specs.Entry.{is_error_buffer, is_shutter, is_stop}
use Rattle.trace_model.specs.Frames.{frames, is_sent, targets_of}
use Rattle.trace_model.specs.Open.{early_fences, is_open}
use Rattle.run_model.specs.declared.step.Move.{Move}
use Rattle.run_model.specs.declared.step.StepName.{StepName}
use Rattle.run_model.specs.History.{trace_of}
use Rattle.run_model.specs.Rows.{is_early_return, is_failed_return, is_ok_return, row_of, rows, sensor_place, target_state, target_view}
use Rattle.run_model.specs.Run.{IsRun}
use Rattle.device_rows.specs.Marks.{as_announced, in_state, marked, with_target}
use Rattle.device_rows.specs.declared.mark.Mark.TheVariants.{RequestError, ResultError, Announced, Stopped}
use Rattle.device_rows.specs.Rows.{exposed, with_part, with_row}
use Rattle.basic_lemmas.proofs.Tests.{and-false, eq-turned, own-number}
use Rattle.run_model.proofs.Entries.{open-sent}
use Rattle.run_model.proofs.Legal.{runs_legally}
use Rattle.trace_laws.proofs.Shutters.{exposed as were_exposed}
use Rattle.trace_laws.specs.Settled.{settles}
use Rattle.trace_laws.proofs.Told.{tells}
use Rattle.run_model.proofs.Unsent.{not-done}
use Rattle.run_rows.proofs.Noted.{at_stream, four-changed, place-noted, row_noted, rows-changed, state-stays, target-noted, untouched, view-noted, views-changed, views-stay}

-- ---- the row of one frame changes

abbrev pub at_frame : ℕ → (RowView → RowView) → RowView → RowView
at_frame m c row = if row.frame.0 == m then c row else row

abbrev pub Spares : List Move → Entry → ℕ → Type 0
Spares h e m = (x : ℕ) → (x == m) ≡ false → (tells x e ≡ false) × ((u : ℕ) → settles x u e (early_fences x u (trace_of h)) ≡ false)

-- an entry of frame m, which stops nothing, changes its row alone
pub in-place : (script : Script) (h : List Move) (step : StepName) (e : Entry) (m : ℕ) (c : RowView → RowView) → IsRun script (record { step = step; entry = Some e } ∷ h) → frames (e ∷ trace_of h) ≡ frames (trace_of h) → Spares h e m → is_stop e ≡ false → (is_sent m (trace_of h) ≡ true → row_of script (record { step = step; entry = Some e } ∷ h) m ≡ c (row_of script h m)) → rows script (record { step = step; entry = Some e } ∷ h) ≡ filter view.is_open (with_row m c (rows script h))
in-place script h step e m c run same others going own =
    rows-changed script (record { step = step; entry = Some e }) h (at_frame m c) run same each
  where
    each : (x : ℕ) → is_open x (trace_of h) ≡ true → row_of script (record { step = step; entry = Some e } ∷ h) x ≡ at_frame m c (row_of script h x)
    each x open_ =
        let sent = open-sent x (trace_of h) open_ in
        elim (cases_Bool (x == m)) [
          | inl here ↦ (
              let at : x ≡ m = eqb-true x m here in
              let sent' : is_sent m (trace_of h) ≡ true = ap (λ (i : ℕ). is_sent i (trace_of h)) (sym at) ∙ sent in
              rw here (ap (λ (i : ℕ). row_of script (record { step = step; entry = Some e } ∷ h) i) at ∙ (own sent' ∙ ap (λ (i : ℕ). c (row_of script h i)) (sym at)))
              )
          | inr other ↦ (let free = others x other in rw other (untouched script h step e x run sent free.0 going free.1))
        ]

-- an entry that says nothing of any frame leaves the rows
pub nothing : (script : Script) (h : List Move) (step : StepName) (e : Entry) → IsRun script (record { step = step; entry = Some e } ∷ h) → frames (e ∷ trace_of h) ≡ frames (trace_of h) → is_stop e ≡ false → ((x : ℕ) → tells x e ≡ false) → ((x u : ℕ) → settles x u e (early_fences x u (trace_of h)) ≡ false) → rows script (record { step = step; entry = Some e } ∷ h) ≡ filter view.is_open (rows script h)
nothing script h step e run same going none free =
    rows-changed script (record { step = step; entry = Some e }) h (λ row. row) run same (λ x open_. untouched script h step e x run (open-sent x (trace_of h) open_) (none x) going (free x))
    ∙ ap (λ (rs : List RowView). filter view.is_open rs) (map-id (rows script h))

-- ---- an entry that touches no buffer

-- the targets stay
same-views : (script : Script) (h : List Move) (step : StepName) (e : Entry) (n : ℕ) → IsRun script (record { step = step; entry = Some e } ∷ h) → ((u : ℕ) → is_error_buffer n u e ≡ false) → ((u : ℕ) → is_ok_return n u e ≡ false) → ((u : ℕ) → is_failed_return n u e ≡ false) → ((u : ℕ) → is_early_return n u e ≡ false) → ((u : ℕ) → settles n u e (early_fences n u (trace_of h)) ≡ false) → map (target_view (record { step = step; entry = Some e } ∷ h) n) (targets_of n (trace_of h)) ≡ map (target_view h n) (targets_of n (trace_of h))
same-views script h step e n run errors a b c d =
    views-stay (target_view (record { step = step; entry = Some e } ∷ h) n) (target_view h n) (targets_of n (trace_of h))
    (λ t. target-noted h step e n t (target_state h n t.stream.0) (state-stays script h step e n t.stream.0 run (a t.stream.0) (b t.stream.0) (c t.stream.0) (d t.stream.0)) ∙ rw (errors t.stream.0) refl)

-- an entry that touches no buffer and is no shutter
said-row : (script : Script) (h : List Move) (step : StepName) (e : Entry) (n : ℕ) → IsRun script (record { step = step; entry = Some e } ∷ h) → is_sent n (trace_of h) ≡ true → is_shutter n e ≡ false → ((u : ℕ) → is_error_buffer n u e ≡ false) → ((u : ℕ) → is_ok_return n u e ≡ false) → ((u : ℕ) → is_failed_return n u e ≡ false) → ((u : ℕ) → is_early_return n u e ≡ false) → ((u : ℕ) → settles n u e (early_fences n u (trace_of h)) ≡ false) → row_of script (record { step = step; entry = Some e } ∷ h) n ≡ row_noted script h e n (map (target_view h n) (targets_of n (trace_of h))) (sensor_place h n)
said-row script h step e n run sent shutter errors a b c d =
    view-noted script h step e n (map (target_view h n) (targets_of n (trace_of h))) (sensor_place h n) run sent (same-views script h step e n run errors a b c d)
    (place-noted script h step e n run sent ∙ rw shutter refl)

pub shutter-row : (script : Script) (h : List Move) (step : StepName) (n : FrameNo) (time : ℕ) → IsRun script (record { step = step; entry = Some (ShutterEntry n time) } ∷ h) → is_sent n.0 (trace_of h) ≡ true → row_of script (record { step = step; entry = Some (ShutterEntry n time) } ∷ h) n.0 ≡ exposed time (row_of script h n.0)
shutter-row script h step n time run sent =
    let past = trace_of h in
    let e = ShutterEntry n time in
    let dark = (were_exposed script past n time (runs_legally script (record { step = step; entry = Some e } ∷ h) run).0).1 in
    let undone = not-done script h n.0 run.1 dark in
    let place : sensor_place (record { step = step; entry = Some e } ∷ h) n.0 ≡ SensorOut = place-noted script h step e n.0 run sent ∙ rw (own-number n.0, undone) refl in
    view-noted script h step e n.0 (map (target_view h n.0) (targets_of n.0 past)) SensorOut run sent
    (same-views script h step e n.0 run (λ u. refl) (λ u. refl) (λ u. refl) (λ u. refl) (λ u. refl)) place
    ∙ rw (own-number n.0) refl

pub part-row : (script : Script) (h : List Move) (step : StepName) (n : FrameNo) (k : ℕ) (part : PartialResult) → IsRun script (record { step = step; entry = Some (PartialEntry n k part) } ∷ h) → is_sent n.0 (trace_of h) ≡ true → row_of script (record { step = step; entry = Some (PartialEntry n k part) } ∷ h) n.0 ≡ with_part k (row_of script h n.0)
part-row script h step n k part run sent = said-row script h step (PartialEntry n k part) n.0 run sent refl (λ u. refl) (λ u. refl) (λ u. refl) (λ u. refl) (λ u. refl) ∙ rw (own-number n.0) refl

pub request-row : (script : Script) (h : List Move) (step : StepName) (n : FrameNo) → IsRun script (record { step = step; entry = Some (ErrorRequest n) } ∷ h) → is_sent n.0 (trace_of h) ≡ true → row_of script (record { step = step; entry = Some (ErrorRequest n) } ∷ h) n.0 ≡ marked RequestError (row_of script h n.0)
request-row script h step n run sent = said-row script h step (ErrorRequest n) n.0 run sent refl (λ u. refl) (λ u. refl) (λ u. refl) (λ u. refl) (λ u. refl) ∙ rw (own-number n.0) refl

pub result-row : (script : Script) (h : List Move) (step : StepName) (n : FrameNo) → IsRun script (record { step = step; entry = Some (ErrorResult n) } ∷ h) → is_sent n.0 (trace_of h) ≡ true → row_of script (record { step = step; entry = Some (ErrorResult n) } ∷ h) n.0 ≡ marked ResultError (row_of script h n.0)
result-row script h step n run sent = said-row script h step (ErrorResult n) n.0 run sent refl (λ u. refl) (λ u. refl) (λ u. refl) (λ u. refl) (λ u. refl) ∙ rw (own-number n.0) refl

-- ---- the rows all stop

pub stop-row : (script : Script) (h : List Move) (step : StepName) (e : Entry) (n : ℕ) → IsRun script (record { step = step; entry = Some e } ∷ h) → is_sent n (trace_of h) ≡ true → is_stop e ≡ true → ((x : ℕ) → tells x e ≡ false) → row_of script (record { step = step; entry = Some e } ∷ h) n ≡ marked Stopped (row_of script h n)
stop-row script h step (Begin word) n run sent stop none = said-row script h step (Begin word) n run sent refl (λ u. refl) (λ u. refl) (λ u. refl) (λ u. refl) (λ u. refl) ∙ rw stop refl
stop-row script h step ErrorDevice n run sent stop none = said-row script h step ErrorDevice n run sent refl (λ u. refl) (λ u. refl) (λ u. refl) (λ u. refl) (λ u. refl)
stop-row script h step _ n run sent stop none = absurd (false≢true stop)

-- ---- a buffer's error is announced

pub announced-row : (script : Script) (h : List Move) (step : StepName) (n : FrameNo) (s : StreamIx) → IsRun script (record { step = step; entry = Some (ErrorBuffer n s) } ∷ h) → is_sent n.0 (trace_of h) ≡ true → row_of script (record { step = step; entry = Some (ErrorBuffer n s) } ∷ h) n.0 ≡ marked (Announced s) (row_of script h n.0)
announced-row script h step n s run sent =
    let past = trace_of h in
    let e = ErrorBuffer n s in
    let views = map (target_view h n.0) (targets_of n.0 past) in
    view-noted script h step e n.0 (map (at_stream s.0 as_announced) views) (sensor_place h n.0) run sent
    (views-changed (target_view (record { step = step; entry = Some e } ∷ h) n.0) (target_view h n.0) (at_stream s.0 as_announced) (targets_of n.0 past) one)
    (place-noted script h step e n.0 run sent)
    ∙ ap (λ (f : Four TargetView). record (row_of script h n.0) { targets = f }) (four-changed s.0 as_announced views)
  where
    one : (t : Sent) → target_view (record { step = step; entry = Some (ErrorBuffer n s) } ∷ h) n.0 t ≡ at_stream s.0 as_announced (target_view h n.0 t)
    one t =
        target-noted h step (ErrorBuffer n s) n.0 t (target_state h n.0 t.stream.0) (state-stays script h step (ErrorBuffer n s) n.0 t.stream.0 run refl refl refl refl)
        ∙ elim (cases_Bool (t.stream.0 == s.0)) [
          | inl here ↦ (let turned = eq-eqb s.0 t.stream.0 (sym (eqb-true t.stream.0 s.0 here)) in rw (here, own-number n.0, turned) refl)
          | inr other ↦ (let turned = eq-turned s.0 t.stream.0 other in rw (other, turned, and-false (n.0 == n.0)) refl)
        ]

-- ---- a buffer comes back

-- the target of a stream comes into a state
pub state-row : (script : Script) (h : List Move) (step : StepName) (e : Entry) (n : ℕ) (s : StreamIx) (state : TargetState) → IsRun script (record { step = step; entry = Some e } ∷ h) → is_sent n (trace_of h) ≡ true → map (target_view (record { step = step; entry = Some e } ∷ h) n) (targets_of n (trace_of h)) ≡ map (at_stream s.0 (in_state state)) (map (target_view h n) (targets_of n (trace_of h))) → is_shutter n e ≡ false → row_noted script h e n (map (at_stream s.0 (in_state state)) (map (target_view h n) (targets_of n (trace_of h)))) (sensor_place h n) ≡ record (row_of script h n) { targets = four_of (map (at_stream s.0 (in_state state)) (map (target_view h n) (targets_of n (trace_of h)))) } → row_of script (record { step = step; entry = Some e } ∷ h) n ≡ record (row_of script h n) { targets = with_target s.0 (in_state state) (row_of script h n).targets }
state-row script h step e n s state run sent views shutter same =
    let past = trace_of h in
    view-noted script h step e n (map (at_stream s.0 (in_state state)) (map (target_view h n) (targets_of n past))) (sensor_place h n) run sent views
    (place-noted script h step e n run sent ∙ rw shutter refl)
    ∙ (same ∙ ap (λ (f : Four TargetView). record (row_of script h n) { targets = f }) (four-changed s.0 (in_state state) (map (target_view h n) (targets_of n past))))
