-- What the steps that add no entry make of the rows: the sensor's work ends, a stage takes a buffer, or gives it back.
use Rattle.std.proofs.Common.{◌≡◌, ℕ, ◌==◌, Bool, false, ◌&&◌, ◌||◌, List, ◌∷◌, None, refl, sym, ap, ◌∙◌, inl, inr, filter, map}
use Rattle.std.proofs.lemmas.Bool.{cases_Bool, eqb-true}
use Rattle.cam_types.specs.Rows as view
use Rattle.cam_types.specs.declared.four.Four.{Four}
use Rattle.cam_types.specs.declared.number.FrameNo.{FrameNo}
use Rattle.cam_types.specs.declared.number.StreamIx.{StreamIx}
use Rattle.cam_types.specs.declared.row.RowView.{RowView}
use Rattle.cam_types.specs.declared.row.SensorPlace.{SensorPlace}
use Rattle.cam_types.specs.declared.row.SensorPlace.TheVariants.{Home, WithFill}
use Rattle.cam_types.specs.declared.row.TargetState.{TargetState}
use Rattle.cam_types.specs.declared.row.TargetState.TheVariants.{Out}
use Rattle.cam_types.specs.declared.row.TargetView.{TargetView}
use Rattle.cam_types.specs.declared.script.Script.{Script}
use Rattle.trace_model.specs.declared.entry.Sent.{Sent}
use Rattle.trace_model.specs.Frames.{has_shutter, targets_of}
use Rattle.trace_model.specs.Open.{has_error_buffer}
use Rattle.run_model.specs.declared.step.Move.{Move}
use Rattle.run_model.specs.declared.step.StepName.{StepName}
use Rattle.run_model.specs.declared.step.StepName.TheVariants.{SensorDone, TakeFill, FillDone}
use Rattle.run_model.specs.History.{trace_of, is_fill_done, is_sensor_done, is_take_fill}
use Rattle.run_model.specs.Jobs.{is_fill_out, is_sensor_done_in}
use Rattle.run_model.specs.Rows.{row_of, rows, sensor_place, target_state, target_view}
use Rattle.run_model.specs.Run.{IsRun}
use Rattle.device_rows.specs.Marks.{in_state, marked}
use Rattle.device_rows.specs.declared.mark.Mark.TheVariants.{Sensor, Target}
use Rattle.device_rows.specs.Rows.{fill_begun, fill_ended, filled_after, sensor_home, target_at, with_row}
use Rattle.basic_lemmas.proofs.Tests.{eq-turned}
use Rattle.run_rows.proofs.Changes.{at_frame}
use Rattle.run_rows.proofs.Fills.{fill-own, sensor-own, take-own}
use Rattle.run_rows.proofs.Noted.{at_stream, four-changed, place_by, rows-changed, silent-row, state-views, views-stay}
use Rattle.run_rows.proofs.Returned.{other-stream}
use Rattle.basic_lemmas.proofs.Lists.{any-agree}

-- ---- the rows of other frames

state-kept : (h : List Move) (step : StepName) (n u : ℕ) → is_take_fill n u step ≡ false → is_fill_done n u step ≡ false → target_state (record { step = step; entry = None } ∷ h) n u ≡ target_state h n u
state-kept h step n u a b = rw (a, b) refl

out-kept : (h : List Move) (step : StepName) (n u : ℕ) → is_take_fill n u step ≡ false → is_fill_done n u step ≡ false → is_fill_out (record { step = step; entry = None } ∷ h) n u ≡ is_fill_out h n u
out-kept h step n u a b = rw (a, b) refl

view-kept : (h : List Move) (step : StepName) (n : ℕ) (t : Sent) → is_take_fill n t.stream.0 step ≡ false → is_fill_done n t.stream.0 step ≡ false → target_view (record { step = step; entry = None } ∷ h) n t ≡ target_view h n t
view-kept h step n t a b =
    ap (λ (s : TargetState). record { stream = t.stream; buffer = t.buffer; fence = t.fence; announced = has_error_buffer n t.stream.0 (trace_of h); state = s }) (state-kept h step n t.stream.0 a b)

place-kept : (h : List Move) (step : StepName) (n : ℕ) → ((u : ℕ) → is_take_fill n u step ≡ false) → ((u : ℕ) → is_fill_done n u step ≡ false) → is_sensor_done n step ≡ false → sensor_place (record { step = step; entry = None } ∷ h) n ≡ sensor_place h n
place-kept h step n a b c =
    both (λ done fill. place_by (has_shutter n (trace_of h)) done fill) _ _ _ _ (ap (λ d. d || is_sensor_done_in h n) c)
    (any-agree (λ t. is_fill_out (record { step = step; entry = None } ∷ h) n t.stream.0) (λ t. is_fill_out h n t.stream.0) (targets_of n (trace_of h)) (λ t. out-kept h step n t.stream.0 (a t.stream.0) (b t.stream.0)))
  where
    both : (f : Bool → Bool → SensorPlace) (a a' b b' : Bool) → a ≡ a' → b ≡ b' → f a b ≡ f a' b'
    both f a a' b b' x y = rw (x, y) refl

row-kept : (script : Script) (h : List Move) (step : StepName) (n : ℕ) → ((u : ℕ) → is_take_fill n u step ≡ false) → ((u : ℕ) → is_fill_done n u step ≡ false) → is_sensor_done n step ≡ false → row_of script (record { step = step; entry = None } ∷ h) n ≡ row_of script h n
row-kept script h step n a b c =
    silent-row script h step n (map (target_view h n) (targets_of n (trace_of h))) (sensor_place h n)
    (views-stay (target_view (record { step = step; entry = None } ∷ h) n) (target_view h n) (targets_of n (trace_of h)) (λ t. view-kept h step n t (a t.stream.0) (b t.stream.0)))
    (place-kept h step n a b c)

-- a step of frame m changes its row alone
silent-in-place : (script : Script) (h : List Move) (step : StepName) (m : ℕ) (c : RowView → RowView) → IsRun script (record { step = step; entry = None } ∷ h) → ((x : ℕ) → (x == m) ≡ false → row_of script (record { step = step; entry = None } ∷ h) x ≡ row_of script h x) → row_of script (record { step = step; entry = None } ∷ h) m ≡ c (row_of script h m) → rows script (record { step = step; entry = None } ∷ h) ≡ filter view.is_open (with_row m c (rows script h))
silent-in-place script h step m c run others own =
    rows-changed script (record { step = step; entry = None }) h (at_frame m c) run refl (λ x open_. each x)
  where
    each : (x : ℕ) → row_of script (record { step = step; entry = None } ∷ h) x ≡ at_frame m c (row_of script h x)
    each x = elim (cases_Bool (x == m)) [
      | inl here ↦ (
          let at : x ≡ m = eqb-true x m here in
          rw here (ap (λ (i : ℕ). row_of script (record { step = step; entry = None } ∷ h) i) at ∙ (own ∙ ap (λ (i : ℕ). c (row_of script h i)) (sym at)))
          )
      | inr other ↦ rw other (others x other)
    ]

-- ---- each of the steps

pub sensor-changed : (script : Script) (h : List Move) (n : FrameNo) → IsRun script (record { step = SensorDone n; entry = None } ∷ h) → rows script (record { step = SensorDone n; entry = None } ∷ h) ≡ filter view.is_open (with_row n.0 sensor_home (rows script h))
sensor-changed script h n run =
    silent-in-place script h (SensorDone n) n.0 sensor_home run
    (λ x other. row-kept script h (SensorDone n) x (λ u. refl) (λ u. refl) (eq-turned n.0 x other))
    (silent-row script h (SensorDone n) n.0 (map (target_view h n.0) (targets_of n.0 (trace_of h))) Home
    (views-stay (target_view (record { step = SensorDone n; entry = None } ∷ h) n.0) (target_view h n.0) (targets_of n.0 (trace_of h)) (λ t. view-kept h (SensorDone n) n.0 t refl refl))
    (sensor-own script h n run))

other-frame : (n x s u : ℕ) → (x == n) ≡ false → ((n == x) && (s == u)) ≡ false
other-frame n x s u other = rw (eq-turned n x other) refl

-- a row whose target of a stream and whose sensor's place change
both-row : (script : Script) (h : List Move) (step : StepName) (n : ℕ) (s : StreamIx) (state : TargetState) (p : SensorPlace) → ((u : ℕ) → (u == s.0) ≡ false → target_state (record { step = step; entry = None } ∷ h) n u ≡ target_state h n u) → target_state (record { step = step; entry = None } ∷ h) n s.0 ≡ state → sensor_place (record { step = step; entry = None } ∷ h) n ≡ p → row_of script (record { step = step; entry = None } ∷ h) n ≡ marked (Sensor p) (marked (Target s state) (row_of script h n))
both-row script h step n s state p others own place =
    let views = map (target_view h n) (targets_of n (trace_of h)) in
    silent-row script h step n (map (at_stream s.0 (in_state state)) views) p
    (state-views (record { step = step; entry = None } ∷ h) h n s.0 state (targets_of n (trace_of h)) (λ u. refl) others own) place
    ∙ ap (λ (f : Four TargetView). record (row_of script h n) { targets = f; sensor = p }) (four-changed s.0 (in_state state) views)

pub take-changed : (script : Script) (h : List Move) (n : FrameNo) (s : StreamIx) → IsRun script (record { step = TakeFill n s; entry = None } ∷ h) → rows script (record { step = TakeFill n s; entry = None } ∷ h) ≡ filter view.is_open (with_row n.0 (fill_begun s) (rows script h))
take-changed script h n s run =
    let own = take-own script h n s run in
    silent-in-place script h (TakeFill n s) n.0 (fill_begun s) run
    (λ x other. row-kept script h (TakeFill n s) x (λ u. other-frame n.0 x s.0 u other) (λ u. refl) refl)
    (both-row script h (TakeFill n s) n.0 s Out WithFill (λ u other. state-kept h (TakeFill n s) n.0 u (other-stream n.0 s.0 u other) refl) own.0 own.1)

pub fill-changed : (script : Script) (h : List Move) (n : FrameNo) (s : StreamIx) → IsRun script (record { step = FillDone n s; entry = None } ∷ h) → rows script (record { step = FillDone n s; entry = None } ∷ h) ≡ filter view.is_open (with_row n.0 (fill_ended s) (rows script h))
fill-changed script h n s run =
    let own = fill-own script h n s run in
    silent-in-place script h (FillDone n s) n.0 (fill_ended s) run
    (λ x other. row-kept script h (FillDone n s) x (λ u. refl) (λ u. other-frame n.0 x s.0 u other) refl)
    (both-row script h (FillDone n s) n.0 s (filled_after (target_at s.0 (row_of script h n.0))) Home (λ u other. state-kept h (FillDone n s) n.0 u refl (other-stream n.0 s.0 u other)) own.0 own.1)
