-- No job of a frame comes before the frame's exposure: what a move of a run tells of earlier ones.
use Rattle.std.proofs.Common.{◌≡◌, ℕ, ◌==◌, Bool, true, false, ◌&&◌, not, List, [], ◌∷◌, Option, Some, None, inl, inr}
use Rattle.std.specs.List.{list_any}
use Rattle.std.proofs.lemmas.Bool.{and_parts, cases_Bool, eqb-true, false≢true, or_right}
use Rattle.cam_types.specs.declared.script.Script.{Script}
use Rattle.trace_model.specs.declared.entry.Entry.{Entry}
use Rattle.trace_model.specs.Entry.{is_shutter}
use Rattle.trace_model.specs.Frames.{has_shutter, target_of}
use Rattle.trace_model.specs.Filled.{is_sound}
use Rattle.trace_model.specs.Open.{is_open, is_returned}
use Rattle.run_model.specs.declared.step.Move.{Move}
use Rattle.run_model.specs.declared.step.StepName.{StepName}
use Rattle.run_model.specs.declared.step.StepName.TheVariants.{SensorDone, TakeFill, FillDone}
use Rattle.run_model.specs.History.{trace_of, with_entry, is_sensor_done, is_take_fill, is_fill_done}
use Rattle.run_model.specs.Jobs.{is_sensor_done_in, is_sensor_out, is_taken_in, is_fill_out, is_any_fill_out, is_filled_in, is_readout_home}
use Rattle.run_model.specs.Ready.{may_take_fill, move_of, target_is_passed}
use Rattle.run_model.specs.Run.{IsRun}
use Rattle.run_model.proofs.Legal.{adds-none}
use Rattle.basic_lemmas.proofs.Lists.{any-behind}
use Rattle.basic_lemmas.proofs.Tests.{not-by}

-- ---- what a step that was ready tells

pub sensor-ready : (script : Script) (h : List Move) (step : StepName) (m : Move) (n : ℕ) → move_of script h step ≡ Some m → is_sensor_done n step ≡ true → is_sensor_out h n ≡ true
sensor-ready script h (SensorDone k) m n at is =
    let out = (adds-none (SensorDone k) (is_sensor_out h k.0) m at).0 in
    rw (eqb-true k.0 n is) at out
sensor-ready script h _ m n at is = absurd (false≢true is)

pub take-ready : (script : Script) (h : List Move) (step : StepName) (m : Move) (n s : ℕ) → move_of script h step ≡ Some m → is_take_fill n s step ≡ true → may_take_fill script h n s ≡ true
take-ready script h (TakeFill k t) m n s at is =
    let may = (adds-none (TakeFill k t) (may_take_fill script h k.0 t.0) m at).0 in
    let parts = and_parts (k.0 == n) (t.0 == s) is in
    rw (eqb-true k.0 n parts.0, eqb-true t.0 s parts.1) at may
take-ready script h _ m n s at is = absurd (false≢true is)

pub fill-ready : (script : Script) (h : List Move) (step : StepName) (m : Move) (n s : ℕ) → move_of script h step ≡ Some m → is_fill_done n s step ≡ true → is_fill_out h n s ≡ true
fill-ready script h (FillDone k t) m n s at is =
    let out = (adds-none (FillDone k t) (is_fill_out h k.0 t.0) m at).0 in
    let parts = and_parts (k.0 == n) (t.0 == s) is in
    rw (eqb-true k.0 n parts.0, eqb-true t.0 s parts.1) at out
fill-ready script h _ m n s at is = absurd (false≢true is)

-- ---- so each job comes after the one before it

pub any-entry : (p : Entry → Bool) (o : Option Entry) (past : List Entry) → list_any p past ≡ true → list_any p (with_entry o past) ≡ true
any-entry p (Some e) past h = any-behind p e past h
any-entry p None past h = h

pub done-shot : (script : Script) (h : List Move) (n : ℕ) → IsRun script h → is_sensor_done_in h n ≡ true → has_shutter n (trace_of h) ≡ true
done-shot script [] n run is = absurd (false≢true is)
done-shot script (m ∷ h) n run is =
    let before : has_shutter n (trace_of h) ≡ true = elim (cases_Bool (is_sensor_done n m.step)) [
      | inl here ↦ (and_parts (has_shutter n (trace_of h)) (not (is_sensor_done_in h n)) (sensor-ready script h m.step m n run.0 here)).0
      | inr other ↦ (let is' = rw other at is in done-shot script h n run.1 is')
    ] in
    any-entry (is_shutter n) m.entry (trace_of h) before

pub record MayTake (script : Script) (h : List Move) (n s : ℕ) : Type 0 where
  pub open_ : is_open n (trace_of h) ≡ true
  pub sound : is_sound script (trace_of h) n s ≡ true
  pub here : not (is_returned n s (trace_of h)) ≡ true
  pub fresh : not (is_taken_in h n s) ≡ true
  pub home : is_readout_home h n ≡ true
  pub passed : target_is_passed (trace_of h) (target_of n s (trace_of h)) ≡ true

pub take-parts : (script : Script) (h : List Move) (n s : ℕ) → may_take_fill script h n s ≡ true → MayTake script h n s
take-parts script h n s may =
    let past = trace_of h in
    let a = is_open n past && (is_sound script past n s && not (is_returned n s past)) in
    let c = not (is_taken_in h n s) && is_readout_home h n in
    let d = target_is_passed past (target_of n s past) in
    let both = and_parts a (c && d) may in
    let first = and_parts (is_open n past) (is_sound script past n s && not (is_returned n s past)) both.0 in
    let second = and_parts (is_sound script past n s) (not (is_returned n s past)) first.1 in
    let third = and_parts c d both.1 in
    let fourth = and_parts (not (is_taken_in h n s)) (is_readout_home h n) third.0 in
    record { open_ = first.0; sound = second.0; here = second.1; fresh = fourth.0; home = fourth.1; passed = third.1 }

pub taken-done : (script : Script) (h : List Move) (n s : ℕ) → IsRun script h → is_taken_in h n s ≡ true → is_sensor_done_in h n ≡ true
taken-done script [] n s run is = absurd (false≢true is)
taken-done script (m ∷ h) n s run is =
    let before : is_sensor_done_in h n ≡ true = elim (cases_Bool (is_take_fill n s m.step)) [
      | inl here ↦ (and_parts (is_sensor_done_in h n) (not (is_any_fill_out h n)) (take-parts script h n s (take-ready script h m.step m n s run.0 here)).home).0
      | inr other ↦ (let is' = rw other at is in taken-done script h n s run.1 is')
    ] in
    or_right (is_sensor_done n m.step) (is_sensor_done_in h n) before

pub filled-taken : (script : Script) (h : List Move) (n s : ℕ) → IsRun script h → is_filled_in h n s ≡ true → is_taken_in h n s ≡ true
filled-taken script [] n s run is = absurd (false≢true is)
filled-taken script (m ∷ h) n s run is =
    let before : is_taken_in h n s ≡ true = elim (cases_Bool (is_fill_done n s m.step)) [
      | inl here ↦ (and_parts (is_taken_in h n s) (not (is_filled_in h n s)) (fill-ready script h m.step m n s run.0 here)).0
      | inr other ↦ (let is' = rw other at is in filled-taken script h n s run.1 is')
    ] in
    or_right (is_take_fill n s m.step) (is_taken_in h n s) before

pub not-done : (script : Script) (h : List Move) (n : ℕ) → IsRun script h → has_shutter n (trace_of h) ≡ false → is_sensor_done_in h n ≡ false
not-done script h n run dark = not-by (is_sensor_done_in h n) (has_shutter n (trace_of h)) (done-shot script h n run) dark

pub not-taken : (script : Script) (h : List Move) (n s : ℕ) → IsRun script h → has_shutter n (trace_of h) ≡ false → is_taken_in h n s ≡ false
not-taken script h n s run dark = not-by (is_taken_in h n s) (is_sensor_done_in h n) (taken-done script h n s run) (not-done script h n run dark)

pub not-filled : (script : Script) (h : List Move) (n s : ℕ) → IsRun script h → has_shutter n (trace_of h) ≡ false → is_filled_in h n s ≡ false
not-filled script h n s run dark = not-by (is_filled_in h n s) (is_taken_in h n s) (filled-taken script h n s run) (not-taken script h n s run dark)
