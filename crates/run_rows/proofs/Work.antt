-- The jobs that are out are read from the rows: no job is out of a frame that is closed.
use Rattle.std.proofs.Common.{◌≡◌, ℕ, ◌==◌, Bool, true, false, ◌&&◌, ◌||◌, not, List, [], ◌∷◌, Option, Some, None, refl, sym, ap, ◌∙◌, inl, inr, is_some}
use Rattle.std.specs.List.{list_all, list_any}
use Rattle.std.proofs.lemmas.Bool.{and_parts, cases_Bool, eqb-true, false≢true, not-true}
use Rattle.run_rows.proofs.General.{some-if}
use Rattle.cam_types.specs.declared.script.Script.{Script}
use Rattle.trace_model.specs.declared.entry.Entry.{Entry}
use Rattle.trace_model.specs.declared.entry.Entry.TheVariants.{Shutter, Filled, Failed, Late}
use Rattle.trace_model.specs.declared.entry.Sent.{Sent}
use Rattle.trace_model.specs.Entry.{is_error_buffer, is_error_of, is_error_request, is_shutter}
use Rattle.trace_model.specs.Frames.{has_error, has_error_request, has_shutter, is_sent, target_of, targets_of}
use Rattle.trace_model.specs.Legal.{IsLegal}
use Rattle.trace_model.specs.Open.{early_fences, has_error_buffer, is_open, is_returned, is_settled}
use Rattle.run_model.specs.declared.step.Move.{Move}
use Rattle.run_model.specs.declared.step.StepName.{StepName}
use Rattle.run_model.specs.declared.step.StepName.TheVariants.{Finish}
use Rattle.run_model.specs.History.{trace_of, with_entry, is_sensor_done}
use Rattle.run_model.specs.Jobs.{is_fill_out, is_filled_in, is_sensor_done_in, is_sensor_out, is_taken_in}
use Rattle.run_model.specs.Rows.{is_failed_return, row_of, rows, target_state}
use Rattle.run_model.specs.Run.{IsRun}
use Rattle.device_rows.specs.Jobs as device
use Rattle.device_rows.specs.Jobs.{sensor_job_at, sensor_job_of}
use Rattle.basic_lemmas.proofs.Lists.{any-behind, any-where}
use Rattle.basic_lemmas.proofs.Tests.{not-by}
use Rattle.run_model.proofs.Legal.{runs_legally}
use Rattle.state_facts.proofs.Targets.{has_some, sent-targets}
use Rattle.trace_laws.proofs.Shutters.{exposed, request_is_error}
use Rattle.trace_laws.specs.Settled.{settles}
use Rattle.trace_laws.proofs.Settled.{settled-noted}
use Rattle.run_model.specs.RunMoves.{by_entry}
use Rattle.run_model.proofs.Unsent.{done-shot, filled-taken, taken-done}
use Rattle.trace_laws.proofs.Done.{closed-is}
use Rattle.trace_laws.proofs.Once.{settled-returned}
use Rattle.run_rows.proofs.Fills.{is-out}
use Rattle.run_rows.proofs.Frames.{by-row}
use Rattle.run_rows.proofs.Jobs.{FinishedBy, early-taken, move-behind, ok-filled}
use Rattle.run_rows.proofs.Returned.{late-of}
use Rattle.run_rows.proofs.States.{place-out, returned-kinds, state_by, was_bad, was_early, was_ok}
use Rattle.state_facts.proofs.Caused.{failed_cause, buffer_error}
use Rattle.trace_laws.proofs.Told.{unexposed}

-- ---- a failed buffer comes after an error of its frame

some-error : (past : List Entry) (n s : ℕ) → (has_error_request n past || has_error_buffer n s past) ≡ true → has_error n past ≡ true
some-error past n s h = elim (cases_Bool (has_error_request n past)) [
  | inl whole ↦ any-where (is_error_request n) (is_error_of n) past (request_is_error n) whole
  | inr no' ↦ (let h' = rw no' at h in any-where (is_error_buffer n s) (is_error_of n) past (buffer_error n s) h')
]

bad-error : (script : Script) (past : List Entry) (n s : ℕ) → IsLegal script past → list_any (is_failed_return n s) past ≡ true → has_error n past ≡ true
bad-error script [] n s legal h = absurd (false≢true h)
bad-error script (Failed m t b f ∷ past) n s legal h = elim (cases_Bool ((m.0 == n) && (t.0 == s))) [
  | inl here ↦ (
      let parts = and_parts (m.0 == n) (t.0 == s) here in
      let errors = failed_cause past m.0 t.0 (target_of m.0 t.0 past) (Failed m t b f) legal.0 in
      ap (λ (i : ℕ). has_error i past) (sym (eqb-true m.0 n parts.0)) ∙ some-error past m.0 t.0 errors
      )
  | inr other ↦ (let h' = rw other at h in bad-error script past n s legal.1 h')
]
bad-error script (e ∷ past) n s legal h = any-behind (is_error_of n) e past (bad-error script past n s legal.1 h)

-- ---- no sensor's job is out of a frame of which the device is done with a buffer

done-home : (h : List Move) (n : ℕ) → is_sensor_done_in h n ≡ true → is_sensor_out h n ≡ false
done-home h n done = rw done (none (has_shutter n (trace_of h)))
  where
    none : (a : Bool) → (a && false) ≡ false
    none true = refl
    none false = refl

filled-home : (script : Script) (h : List Move) (n s : ℕ) → IsRun script h → is_filled_in h n s ≡ true → is_sensor_out h n ≡ false
filled-home script h n s run filled = done-home h n (taken-done script h n s run (filled-taken script h n s run filled))

-- an exposure doesn't begin once a buffer is back
returned-shot : (script : Script) (h : List Move) (n s time : ℕ) → IsRun script h → is_returned n s (trace_of h) ≡ true → has_shutter n (trace_of h) ≡ false → has_error n (trace_of h) ≡ false → ⊥
returned-shot script h n s time run back dark sound =
    let past = trace_of h in
    let undone = not-by (is_sensor_done_in h n) (has_shutter n past) (done-shot script h n run) dark in
    let untaken = not-by (is_taken_in h n s) (is_sensor_done_in h n) (taken-done script h n s run) undone in
    let ok = not-by (was_ok h n s) (is_taken_in h n s) (λ k. filled-taken script h n s run (ok-filled script h n s run k)) untaken in
    let bad = not-by (was_bad h n s) (has_error n past) (bad-error script past n s (runs_legally script h run)) sound in
    let early = not-by (was_early h n s) (is_taken_in h n s) (early-taken script h n s run) untaken in
    false≢true (none (was_ok h n s) (was_bad h n s) (was_early h n s) ok bad early ∙ (returned-kinds n s past ∙ back))
  where
    none : (a b c : Bool) → a ≡ false → b ≡ false → c ≡ false → false ≡ (a || (b || c))
    none a b c x y z = rw (x, y, z) refl

no-exposure : (script : Script) (h : List Move) (n s : ℕ) (o : Option Entry) → IsRun script h → IsLegal script (with_entry o (trace_of h)) → is_returned n s (trace_of h) ≡ true → by_entry (is_shutter n) o ≡ false
no-exposure script h n s (Some (Shutter m time)) run legal back = elim (cases_Bool (m.0 == n)) [
  | inl here ↦ (
      let is = exposed script (trace_of h) m time legal.0 in
      let at = eqb-true m.0 n here in
      let dark : has_shutter n (trace_of h) ≡ false = ap (λ (i : ℕ). has_shutter i (trace_of h)) (sym at) ∙ is.1 in
      let sound : has_error n (trace_of h) ≡ false = ap (λ (i : ℕ). has_error i (trace_of h)) (sym at) ∙ is.2 in
      absurd (returned-shot script h n s time run back dark sound)
      )
  | inr other ↦ other
]
no-exposure script h n s (Some e) run legal back = refl
no-exposure script h n s None run legal back = refl

-- a sensor that is home stays so, but for an exposure
home-stays : (m : Move) (h : List Move) (n : ℕ) → by_entry (is_shutter n) m.entry ≡ false → is_sensor_out h n ≡ false → is_sensor_out (m ∷ h) n ≡ false
home-stays m h n none home =
    ap (λ b. b && not (is_sensor_done n m.step || is_sensor_done_in h n)) (shot m.entry) ∙ by (by_entry (is_shutter n) m.entry) (has_shutter n (trace_of h)) (is_sensor_done n m.step) (is_sensor_done_in h n) none home
  where
    shot : (o : Option Entry) → has_shutter n (with_entry o (trace_of h)) ≡ (by_entry (is_shutter n) o || has_shutter n (trace_of h))
    shot (Some e) = refl
    shot None = refl

    by : (e a x d : Bool) → e ≡ false → (a && not d) ≡ false → ((e || a) && not (x || d)) ≡ false
    by true a x d h k = absurd (false≢true (sym h))
    by false true true d h k = refl
    by false true false d h k = k
    by false false x d h k = refl

-- the entry with which the device is done with a buffer leaves the sensor home
ends-home : (script : Script) (h : List Move) (step : StepName) (e : Entry) (n s : ℕ) → IsRun script (record { step = step; entry = Some e } ∷ h) → settles n s e (early_fences n s (trace_of h)) ≡ true → (by_entry (is_shutter n) (Some e) ≡ false) × (is_sensor_out h n ≡ false)
ends-home script h step (Filled m t b f d) n s run is =
    let parts = and_parts (m.0 == n) (t.0 == s) is in
    let behind = move-behind script h step (record { step = step; entry = Some (Filled m t b f d) }) run.0 in
    (refl, ap (λ (i : ℕ). is_sensor_out h i) (sym (eqb-true m.0 n parts.0)) ∙ filled-home script h m.0 t.0 run.1 behind)
ends-home script h step (Failed m t b f) n s run is =
    let parts = and_parts (m.0 == n) (t.0 == s) is in
    let behind = move-behind script h step (record { step = step; entry = Some (Failed m t b f) }) run.0 in
    (refl, ap (λ (i : ℕ). is_sensor_out h i) (sym (eqb-true m.0 n parts.0)) ∙ not-true (is_sensor_out h m.0) (and_parts (not (is_sensor_out h m.0)) (not (is_fill_out h m.0 t.0)) behind).0)
ends-home script h (Finish m t) (Late d x) n s run is =
    let behind : FinishedBy h (Finish m t) d.0 = move-behind script h (Finish m t) (record { step = Finish m t; entry = Some (Late d x) }) run.0 in
    let only = (late-of script h (Finish m t) m.0 t.0 d x run behind).only n s is in
    (refl, ap (λ (i : ℕ). is_sensor_out h i) (sym only.0) ∙ filled-home script h m.0 t.0 run.1 behind.filled)
ends-home script h step (Late d x) n s run is =
    absurd (move-behind script h step (record { step = step; entry = Some (Late d x) }) run.0)
ends-home script h step e n s run is = absurd (false≢true is)

settled-by : (script : Script) (h : List Move) (step : StepName) (o : Option Entry) (n s : ℕ) → IsRun script (record { step = step; entry = o } ∷ h) → is_settled n s (with_entry o (trace_of h)) ≡ true → (is_settled n s (trace_of h) ≡ true → is_sensor_out h n ≡ false) → (by_entry (is_shutter n) o ≡ false) × (is_sensor_out h n ≡ false)
settled-by script h step None n s run is before = (refl, before is)
settled-by script h step (Some e) n s run is before =
    let legal = runs_legally script (record { step = step; entry = Some e } ∷ h) run in
    let is' : (settles n s e (early_fences n s (trace_of h)) || is_settled n s (trace_of h)) ≡ true = sym (settled-noted script (trace_of h) e n s legal) ∙ is in
    elim (cases_Bool (settles n s e (early_fences n s (trace_of h)))) [
      | inl now ↦ ends-home script h step e n s run now
      | inr other ↦ (
          let old : is_settled n s (trace_of h) ≡ true = rw other at is' in
          (no-exposure script h n s (Some e) run.1 legal (settled-returned n s (trace_of h) old), before old)
          )
    ]

pub settled-still : (script : Script) (h : List Move) (n s : ℕ) → IsRun script h → is_settled n s (trace_of h) ≡ true → is_sensor_out h n ≡ false
settled-still script [] n s run is = absurd (false≢true is)
settled-still script (m ∷ h) n s run is =
    let both = settled-by script h m.step m.entry n s run is (settled-still script h n s run.1) in
    home-stays m h n both.0 both.1

-- so none is out of a closed frame
first-settled : (past : List Entry) (n : ℕ) (ts : List Sent) → has_some ts ≡ true → list_all (λ t. is_settled n t.stream.0 past) ts ≡ true → (s : ℕ) × (is_settled n s past ≡ true)
first-settled past n [] some all = absurd (false≢true some)
first-settled past n (t ∷ ts) some all = (t.stream.0, (and_parts (is_settled n t.stream.0 past) (list_all (λ u. is_settled n u.stream.0 past) ts) all).0)

pub sensor-closed : (script : Script) (h : List Move) (n : ℕ) → IsRun script h → is_open n (trace_of h) ≡ false → is_sensor_out h n ≡ false
sensor-closed script h n run closed =
    let past = trace_of h in
    let legal = runs_legally script h run in
    elim (cases_Bool (is_sent n past)) [
      | inl sent ↦ (let first = first-settled past n (targets_of n past) (sent-targets script past n legal sent) (closed-is past n sent closed).1 in settled-still script h n first.0 run first.1)
      | inr unsent ↦ rw (unexposed script past n legal unsent) refl
    ]

-- ---- the sensor's job

pub sensor_is : (script : Script) (h : List Move) (n : ℕ) → IsRun script h → is_sensor_out h n ≡ is_some (sensor_job_at n (rows script h))
sensor_is script h n run =
    by-row script h n (λ row. is_some (sensor_job_of row)) (is_sensor_out h n)
    (λ open_. sym (place-out h n) ∙ sym (some-if _ (device.sensor_job (row_of script h n))))
    (λ closed. sensor-closed script h n run closed)

-- ---- the state of a buffer that a stage fills

pub state-busy : (script : Script) (h : List Move) (n s : ℕ) → IsRun script h → device.is_fill_out (target_state h n s) ≡ is_fill_out h n s
state-busy script h n s run = elim (cases_Bool (is_fill_out h n s)) [
  | inl out ↦ (
      let is = is-out script h n s run out in
      busy (was_ok h n s) (was_bad h n s) (was_early h n s) (is_settled n s (trace_of h)) (is_fill_out h n s) (is_filled_in h n s) is.ok is.bad is.open_ out ∙ sym out
      )
  | inr idle ↦ still (was_ok h n s) (was_bad h n s) (was_early h n s) (is_settled n s (trace_of h)) (is_fill_out h n s) (is_filled_in h n s) idle ∙ sym idle
]
  where
    busy : (ok bad early settled out filled : Bool) → ok ≡ false → bad ≡ false → settled ≡ false → out ≡ true → device.is_fill_out (state_by ok bad early settled out filled) ≡ true
    busy ok bad true settled out filled a b c d = rw (a, b, c, d) refl
    busy ok bad false settled out filled a b c d = rw (a, b, d) refl

    still : (ok bad early settled out filled : Bool) → out ≡ false → device.is_fill_out (state_by ok bad early settled out filled) ≡ false
    still true bad early settled out filled h = refl
    still false true early settled out filled h = refl
    still false false true true out filled h = refl
    still false false true false out filled h = rw h refl
    still false false false settled out true h = rw h refl
    still false false false settled out false h = rw h refl
