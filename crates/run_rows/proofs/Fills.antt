-- At most one stage has a frame's readout, and how the state of a target and the sensor's place change with the jobs.
use Rattle.std.proofs.Common.{◌≡◌, ℕ, ◌==◌, Bool, true, false, ◌&&◌, ◌||◌, not, List, [], ◌∷◌, Option, Some, None, refl, sym, ap, ◌∙◌, inl, inr, if◌then◌else◌}
use Rattle.std.specs.List.{list_any}
use Rattle.std.proofs.lemmas.Bool.{and_parts, cases_Bool, eq-eqb, eqb-true, false≢true, or_left, or_parts, not-true}
use Rattle.run_rows.proofs.General.{none-found}
use Rattle.cam_types.specs.declared.number.FrameNo.{FrameNo}
use Rattle.cam_types.specs.declared.number.StreamIx.{StreamIx}
use Rattle.cam_types.specs.declared.row.SensorPlace.TheVariants.{Home, WithFill}
use Rattle.cam_types.specs.declared.row.TargetState.TheVariants.{Out, Filled as IsFilled, EarlyFilled}
use Rattle.cam_types.specs.declared.script.Script.{Script}
use Rattle.trace_model.specs.declared.entry.Entry.{Entry}
use Rattle.trace_model.specs.declared.entry.Sent.{Sent}
use Rattle.trace_model.specs.Entry.{brings}
use Rattle.trace_model.specs.Fence.{is_late}
use Rattle.trace_model.specs.Frames.{has_shutter, has_target, target_of, targets_of}
use Rattle.trace_model.specs.Open.{early_fences, is_returned, is_settled}
use Rattle.run_model.specs.declared.step.Move.{Move}
use Rattle.run_model.specs.declared.step.StepName.{StepName}
use Rattle.run_model.specs.declared.step.StepName.TheVariants.{SensorDone, TakeFill, FillDone}
use Rattle.run_model.specs.History.{trace_of, is_fill_done, is_take_fill}
use Rattle.run_model.specs.Jobs.{is_any_fill_out, is_fill_out, is_filled_in, is_sensor_done_in, is_sensor_out, is_taken_in}
use Rattle.run_model.specs.Ready.{may_take_fill, target_is_passed}
use Rattle.run_model.specs.Rows.{row_of, sensor_place, target_state}
use Rattle.run_model.specs.Run.{IsRun}
use Rattle.device_rows.specs.Rows.{filled_after, filled_from, target_at}
use Rattle.basic_lemmas.proofs.Lists.{any-never}
use Rattle.basic_lemmas.proofs.Tests.{not-by}
use Rattle.run_model.proofs.Entries.{target-has}
use Rattle.run_model.proofs.Legal.{adds-none}
use Rattle.trace_laws.proofs.Once.{settled-returned}
use Rattle.run_model.proofs.Targets.{taken_target}
use Rattle.run_model.proofs.Home.{settled_home}
use Rattle.run_model.proofs.Unsent.{filled-taken, take-parts, take-ready, taken-done}
use Rattle.run_rows.proofs.Fours.{by-target}
use Rattle.run_rows.proofs.Noted.{place_by}
use Rattle.run_rows.proofs.States.{brought-kinds, returned-kinds, state_by, was_bad, was_early, was_ok}

-- ---- one fill at most is out of a frame

pub any-at-stream : (p : ℕ → Bool) (s : ℕ) (ts : List Sent) → list_any (λ t. t.stream.0 == s) ts ≡ true → p s ≡ true → list_any (λ t. p t.stream.0) ts ≡ true
any-at-stream p s [] has passes = absurd (false≢true has)
any-at-stream p s (t ∷ ts) has passes = elim (cases_Bool (t.stream.0 == s)) [
  | inl here ↦ or_left (p t.stream.0) (list_any (λ u. p u.stream.0) ts) (ap p (eqb-true t.stream.0 s here) ∙ passes)
  | inr other ↦ (let has' = rw other at has in or_more (p t.stream.0) (list_any (λ u. p u.stream.0) ts) (any-at-stream p s ts has' passes))
]
  where
    or_more : (a b : Bool) → b ≡ true → (a || b) ≡ true
    or_more true b h = refl
    or_more false b h = h

pub out-any : (script : Script) (h : List Move) (n s : ℕ) → IsRun script h → is_fill_out h n s ≡ true → is_any_fill_out h n ≡ true
out-any script h n s run out =
    any-at-stream (λ u. is_fill_out h n u) s (targets_of n (trace_of h)) (taken_target script h n s run (and_parts (is_taken_in h n s) (not (is_filled_in h n s)) out).0) out

-- a stage takes a buffer where no other has the readout
take-alone : (script : Script) (h : List Move) (m : Move) (n s u : ℕ) → IsRun script (m ∷ h) → is_take_fill n s m.step ≡ true → is_fill_out h n u ≡ true → ⊥
take-alone script h m n s u run here out =
    let may = take-parts script h n s (take-ready script h m.step m n s run.0 here) in
    let idle = (and_parts (is_sensor_done_in h n) (not (is_any_fill_out h n)) may.home).1 in
    false≢true (ap not (sym (out-any script h n u run.1 out)) ∙ idle)

still-out : (a b c d : Bool) → ((a || b) && not (c || d)) ≡ true → a ≡ false → (b && not d) ≡ true
still-out a b true d h k = absurd (false≢true (sym (none (a || b)) ∙ h))
  where
    none : (x : Bool) → (x && false) ≡ false
    none true = refl
    none false = refl
still-out true b false d h k = absurd (false≢true (sym k))
still-out false b false d h k = h

same-take : (n s u : ℕ) (m : Move) → is_take_fill n s m.step ≡ true → is_take_fill n u m.step ≡ true → s ≡ u
same-take n s u m a b = by m.step a b
  where
    by : (step : StepName) → is_take_fill n s step ≡ true → is_take_fill n u step ≡ true → s ≡ u
    by (TakeFill k t) x y = sym (eqb-true t.0 s (and_parts (k.0 == n) (t.0 == s) x).1) ∙ eqb-true t.0 u (and_parts (k.0 == n) (t.0 == u) y).1
    by _ x y = absurd (false≢true x)

pub one-out : (script : Script) (h : List Move) (n s u : ℕ) → IsRun script h → is_fill_out h n s ≡ true → is_fill_out h n u ≡ true → s ≡ u
one-out script [] n s u run a b = absurd (false≢true a)
one-out script (m ∷ h) n s u run a b =
    let old = λ (v : ℕ) (out : is_fill_out (m ∷ h) n v ≡ true) (other : is_take_fill n v m.step ≡ false). still-out (is_take_fill n v m.step) (is_taken_in h n v) (is_fill_done n v m.step) (is_filled_in h n v) out other in
    elim (cases_Bool (is_take_fill n s m.step)) [
      | inl here ↦ elim (cases_Bool (is_take_fill n u m.step)) [
        | inl here' ↦ same-take n s u m here here'
        | inr other' ↦ absurd (take-alone script h m n s u run here (old u b other'))
      ]
      | inr other ↦ elim (cases_Bool (is_take_fill n u m.step)) [
        | inl here' ↦ absurd (take-alone script h m n u s run here' (old s a other))
        | inr other' ↦ one-out script h n s u run.1 (old s a other) (old u b other')
      ]
    ]

-- ---- a buffer that a stage fills

pub record IsOut (h : List Move) (n s : ℕ) : Type 0 where
  pub taken : is_taken_in h n s ≡ true
  pub unfilled : is_filled_in h n s ≡ false
  pub ok : was_ok h n s ≡ false
  pub bad : was_bad h n s ≡ false
  pub open_ : is_settled n s (trace_of h) ≡ false

pub is-out : (script : Script) (h : List Move) (n s : ℕ) → IsRun script h → is_fill_out h n s ≡ true → IsOut h n s
is-out script h n s run out =
    let past = trace_of h in
    let parts = and_parts (is_taken_in h n s) (not (is_filled_in h n s)) out in
    let unfilled = not-true (is_filled_in h n s) parts.1 in
    let open_ : is_settled n s past ≡ false = elim (cases_Bool (is_settled n s past)) [
      | inl settled ↦ absurd (false≢true (sym (settled_home script h n s run settled) ∙ out))
      | inr no' ↦ no'
    ] in
    let unbrought = (or_parts (list_any (brings n s) past) (list_any (λ d. is_late d past) (early_fences n s past)) open_).0 in
    let kinds = or_parts (was_ok h n s) (was_bad h n s) (brought-kinds n s past ∙ unbrought) in
    record { taken = parts.0; unfilled = unfilled; ok = kinds.0; bad = kinds.1; open_ = open_ }

-- ---- a buffer that didn't come back

pub record IsHere (h : List Move) (n s : ℕ) : Type 0 where
  pub ok : was_ok h n s ≡ false
  pub bad : was_bad h n s ≡ false
  pub early : was_early h n s ≡ false
  pub open_ : is_settled n s (trace_of h) ≡ false

pub is-here : (h : List Move) (n s : ℕ) → is_returned n s (trace_of h) ≡ false → IsHere h n s
is-here h n s here =
    let past = trace_of h in
    let a = or_parts (was_ok h n s) (was_bad h n s || was_early h n s) (returned-kinds n s past ∙ here) in
    let b = or_parts (was_bad h n s) (was_early h n s) a.1 in
    record { ok = a.0; bad = b.0; early = b.1; open_ = not-by (is_settled n s past) (is_returned n s past) (settled-returned n s past) here }

-- ---- the sensor gives the readout back

pub idle-before : (script : Script) (h : List Move) (n : ℕ) → IsRun script h → is_sensor_done_in h n ≡ false → is_any_fill_out h n ≡ false
idle-before script h n run undone =
    any-never (λ t. is_fill_out h n t.stream.0) (targets_of n (trace_of h)) (λ t. rw (not-by (is_taken_in h n t.stream.0) (is_sensor_done_in h n) (taken-done script h n t.stream.0 run) undone) refl)

pub sensor-own : (script : Script) (h : List Move) (n : FrameNo) → IsRun script (record { step = SensorDone n; entry = None } ∷ h) → sensor_place (record { step = SensorDone n; entry = None } ∷ h) n.0 ≡ Home
sensor-own script h n run =
    let out = (adds-none (SensorDone n) (is_sensor_out h n.0) _ run.0).0 in
    let undone = not-true (is_sensor_done_in h n.0) (and_parts (has_shutter n.0 (trace_of h)) (not (is_sensor_done_in h n.0)) out).1 in
    rw (eq-eqb n.0 n.0 refl, idle-before script h n.0 run.1 undone) (by (has_shutter n.0 (trace_of h)))
  where
    by : (shot : Bool) → place_by shot true false ≡ Home
    by true = refl
    by false = refl

-- ---- a stage takes a buffer

pub take-own : (script : Script) (h : List Move) (n : FrameNo) (s : StreamIx) → IsRun script (record { step = TakeFill n s; entry = None } ∷ h) → (target_state (record { step = TakeFill n s; entry = None } ∷ h) n.0 s.0 ≡ Out) × (sensor_place (record { step = TakeFill n s; entry = None } ∷ h) n.0 ≡ WithFill)
take-own script h n s run =
    let m : Move = record { step = TakeFill n s; entry = None } in
    let past = trace_of h in
    let may = take-parts script h n.0 s.0 (adds-none (TakeFill n s) (may_take_fill script h n.0 s.0) _ run.0).0 in
    let here = is-here h n.0 s.0 (not-true (is_returned n.0 s.0 past) may.here) in
    let untaken = not-true (is_taken_in h n.0 s.0) may.fresh in
    let unfilled = not-by (is_filled_in h n.0 s.0) (is_taken_in h n.0 s.0) (filled-taken script h n.0 s.0 run.1) untaken in
    let own : is_take_fill n.0 s.0 m.step ≡ true = rw (eq-eqb n.0 n.0 refl, eq-eqb s.0 s.0 refl) refl in
    let out : is_fill_out (m ∷ h) n.0 s.0 ≡ true = rw (own, unfilled) refl in
    let done = (and_parts (is_sensor_done_in h n.0) (not (is_any_fill_out h n.0)) may.home).0 in
    let any : is_any_fill_out (m ∷ h) n.0 ≡ true = any-at-stream (λ u. is_fill_out (m ∷ h) n.0 u) s.0 (targets_of n.0 past) (has-of past n.0 s.0 (target_of n.0 s.0 past) refl may.passed) out in (
      state-of (was_ok h n.0 s.0) (was_bad h n.0 s.0) (was_early h n.0 s.0) (is_settled n.0 s.0 past) (is_fill_out (m ∷ h) n.0 s.0) (is_filled_in h n.0 s.0) here.ok here.bad here.early out,
      place-of (has_shutter n.0 past) (is_sensor_done_in h n.0) (is_any_fill_out (m ∷ h) n.0) done any,
    )
  where
    has-of : (past : List Entry) (n s : ℕ) (o : Option Sent) → target_of n s past ≡ o → target_is_passed past o ≡ true → has_target n s past ≡ true
    has-of past n s (Some t) at passed = target-has n s past t at
    has-of past n s None at passed = absurd (false≢true passed)

    state-of : (ok bad early settled out filled : Bool) → ok ≡ false → bad ≡ false → early ≡ false → out ≡ true → state_by ok bad early settled out filled ≡ Out
    state-of ok bad early settled out filled a b c d = rw (a, b, c, d) refl

    place-of : (shot done fill : Bool) → done ≡ true → fill ≡ true → place_by shot done fill ≡ WithFill
    place-of true done fill a b = rw (a, b) refl
    place-of false done fill a b = rw (a, b) refl

-- ---- a stage gives a buffer back

pub none-left : (script : Script) (h : List Move) (n : FrameNo) (s : StreamIx) → IsRun script h → is_fill_out h n.0 s.0 ≡ true → is_any_fill_out (record { step = FillDone n s; entry = None } ∷ h) n.0 ≡ false
none-left script h n s run out =
    any-never (λ t. is_fill_out (record { step = FillDone n s; entry = None } ∷ h) n.0 t.stream.0) (targets_of n.0 (trace_of h)) (λ t. one t.stream.0)
  where
    none : (a : Bool) → (a && false) ≡ false
    none true = refl
    none false = refl

    one : (u : ℕ) → is_fill_out (record { step = FillDone n s; entry = None } ∷ h) n.0 u ≡ false
    one u = elim (cases_Bool (s.0 == u)) [
      | inl here ↦ rw (eq-eqb n.0 n.0 refl, here) (none (is_taken_in h n.0 u))
      | inr other ↦ rw (eq-eqb n.0 n.0 refl, other) (elim (cases_Bool (is_fill_out h n.0 u)) [
        | inl out' ↦ absurd (false≢true (sym other ∙ eq-eqb s.0 u (one-out script h n.0 s.0 u run out out')))
        | inr no' ↦ no'
      ])
    ]

filled-state : (script : Script) (h : List Move) (n s : ℕ) → IsRun script h → is_fill_out h n s ≡ true → filled_after (target_at s (row_of script h n)) ≡ (if was_early h n s then EarlyFilled else IsFilled)
filled-state script h n s run out =
    let is = is-out script h n s run out in
    sym (by-target script h n s filled_after (λ o. if was_early h n s then EarlyFilled else IsFilled)
    (λ at. absurd (none-found (λ t. t.stream.0 == s) (targets_of n (trace_of h)) (taken_target script h n s run is.taken) at))
    (λ t at. by (was_ok h n s) (was_bad h n s) (was_early h n s) (is_settled n s (trace_of h)) (is_fill_out h n s) (is_filled_in h n s) is.ok is.bad is.open_ out))
  where
    by : (ok bad early settled out filled : Bool) → ok ≡ false → bad ≡ false → settled ≡ false → out ≡ true → (if early then EarlyFilled else IsFilled) ≡ filled_from (state_by ok bad early settled out filled)
    by ok bad true settled out filled a b c d = rw (a, b, c, d) refl
    by ok bad false settled out filled a b c d = rw (a, b, d) refl

pub fill-own : (script : Script) (h : List Move) (n : FrameNo) (s : StreamIx) → IsRun script (record { step = FillDone n s; entry = None } ∷ h) → (target_state (record { step = FillDone n s; entry = None } ∷ h) n.0 s.0 ≡ filled_after (target_at s.0 (row_of script h n.0))) × (sensor_place (record { step = FillDone n s; entry = None } ∷ h) n.0 ≡ Home)
fill-own script h n s run =
    let m : Move = record { step = FillDone n s; entry = None } in
    let past = trace_of h in
    let out = (adds-none (FillDone n s) (is_fill_out h n.0 s.0) _ run.0).0 in
    let is = is-out script h n.0 s.0 run.1 out in
    let own : is_fill_done n.0 s.0 m.step ≡ true = rw (eq-eqb n.0 n.0 refl, eq-eqb s.0 s.0 refl) refl in
    let home : is_fill_out (m ∷ h) n.0 s.0 ≡ false = rw own (none (is_taken_in h n.0 s.0)) in
    let filled : is_filled_in (m ∷ h) n.0 s.0 ≡ true = rw own refl in (
      state-of (was_ok h n.0 s.0) (was_bad h n.0 s.0) (was_early h n.0 s.0) (is_settled n.0 s.0 past) (is_fill_out (m ∷ h) n.0 s.0) (is_filled_in (m ∷ h) n.0 s.0) is.ok is.bad is.open_ home filled ∙ sym (filled-state script h n.0 s.0 run.1 out),
      place-of (has_shutter n.0 past) (is_sensor_done_in h n.0) (is_any_fill_out (m ∷ h) n.0) (taken-done script h n.0 s.0 run.1 is.taken) (none-left script h n s run.1 out),
    )
  where
    none : (a : Bool) → (a && false) ≡ false
    none true = refl
    none false = refl

    state-of : (ok bad early settled out filled : Bool) → ok ≡ false → bad ≡ false → settled ≡ false → out ≡ false → filled ≡ true → state_by ok bad early settled out filled ≡ (if early then EarlyFilled else IsFilled)
    state-of ok bad true settled out filled a b c d e = rw (a, b, c, d) refl
    state-of ok bad false settled out filled a b c d e = rw (a, b, d, e) refl

    place-of : (shot done fill : Bool) → done ≡ true → fill ≡ false → place_by shot done fill ≡ Home
    place-of true done fill a b = rw (a, b) refl
    place-of false done fill a b = rw (a, b) refl
