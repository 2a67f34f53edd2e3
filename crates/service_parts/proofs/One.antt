-- A frame has one job out at most.
use Rattle.std.proofs.Common.{◌≡◌, ℕ, true, not, List, Option, Some, None, refl, sym, ap, ◌∙◌, slice_get}
use Rattle.std.specs.Option.{option_map}
use Rattle.std.proofs.lemmas.Bool.{and_parts, false≢true}
use Rattle.cam_types.specs.declared.job.FillTarget.{FillTarget}
use Rattle.cam_types.specs.declared.job.JobView.{JobView}
use Rattle.cam_types.specs.declared.number.FrameNo.{FrameNo}
use Rattle.cam_types.specs.declared.script.Script.{Script}
use Rattle.trace_model.specs.declared.entry.Sent.{Sent}
use Rattle.trace_model.specs.Configuration.{streams}
use Rattle.trace_model.specs.Frames.{has_shutter, settings_of, target_of}
use Rattle.run_model.specs.declared.step.Move.{Move}
use Rattle.run_model.specs.History.{trace_of}
use Rattle.run_model.specs.Jobs.{IsFillJob, IsJobOut, IsOutWith, IsSensorJob, is_fill_out, is_filled_in, is_sensor_done_in, is_sensor_out, is_taken_in}
use Rattle.run_model.specs.Run.{IsRun}
use Rattle.run_model.proofs.Unsent.{taken-done}
use Rattle.run_rows.proofs.Fills.{one-out}

pub inside : {X : Type 0} (a b : X) → Some a ≡ Some b → a ≡ b
inside a b h = cc

same-job : (a b : JobView) → a.frame.0 ≡ b.frame.0 → a.settings ≡ b.settings → a.fill ≡ b.fill → a ≡ b
same-job a b x y z = let k : ◌≡◌ {A = JobView} (record { frame = record { 0 = a.frame.0 }; settings = a.settings; fill = a.fill }) (record { frame = record { 0 = b.frame.0 }; settings = b.settings; fill = b.fill }) = rw (x, y, z) refl in k

same-target : (a b : FillTarget) → a.stream.0 ≡ b.stream.0 → a.buffer ≡ b.buffer → a.spec ≡ b.spec → a ≡ b
same-target a b x y z = let k : ◌≡◌ {A = FillTarget} (record { stream = record { 0 = a.stream.0 }; buffer = a.buffer; spec = a.spec }) (record { stream = record { 0 = b.stream.0 }; buffer = b.buffer; spec = b.spec }) = rw (x, y, z) refl in k

-- a stage has a buffer only once the sensor's work is done
pub apart : (script : Script) (h : List Move) (n s : ℕ) → IsRun script h → is_sensor_out h n ≡ true → is_fill_out h n s ≡ true → ⊥
apart script h n s run sensor fill =
    let taken = (and_parts (is_taken_in h n s) (not (is_filled_in h n s)) fill).0 in
    let undone = (and_parts (has_shutter n (trace_of h)) (not (is_sensor_done_in h n)) sensor).1 in
    false≢true (sym (ap not (taken-done script h n s run taken)) ∙ undone)

two-sensors : (script : Script) (h : List Move) (a b : JobView) → IsSensorJob script h a → IsSensorJob script h b → a.frame.0 ≡ b.frame.0 → a ≡ b
two-sensors script h a b x y at =
    same-job a b at (x.settings ∙ (ap (λ (n : ℕ). settings_of script (trace_of h) n) at ∙ sym y.settings)) (x.no_fill ∙ sym y.no_fill)

two-fills : (script : Script) (h : List Move) (a b : JobView) (s t : FillTarget) → IsRun script h → IsFillJob script h a s → IsFillJob script h b t → a.frame.0 ≡ b.frame.0 → a ≡ b
two-fills script h a b s t run x y at =
    let past = trace_of h in
    let out : is_fill_out h b.frame.0 s.stream.0 ≡ true = ap (λ (n : ℕ). is_fill_out h n s.stream.0) (sym at) ∙ x.out in
    let stream : s.stream.0 ≡ t.stream.0 = one-out script h b.frame.0 s.stream.0 t.stream.0 run out y.out in
    let buffer = inside s.buffer t.buffer (sym x.buffer ∙ (ap (λ (n : ℕ). option_map (λ (u : Sent). u.buffer) (target_of n s.stream.0 past)) at ∙ (ap (λ (i : ℕ). option_map (λ (u : Sent). u.buffer) (target_of b.frame.0 i past)) stream ∙ y.buffer))) in
    let spec = inside s.spec t.spec (sym x.spec ∙ (ap (λ (i : ℕ). slice_get (streams script past) i) stream ∙ y.spec)) in
    same-job a b at (x.settings ∙ (ap (λ (n : ℕ). settings_of script past n) at ∙ sym y.settings))
    (x.fill ∙ (ap Some (same-target s t stream buffer spec) ∙ sym y.fill))

pub one-job : (script : Script) (h : List Move) (a b : JobView) → IsRun script h → IsJobOut script h a → IsJobOut script h b → a.frame.0 ≡ b.frame.0 → a ≡ b
one-job script h a b run x y at = by a.fill b.fill x y
  where
    by : (o p : Option FillTarget) → IsOutWith script h a o → IsOutWith script h b p → a ≡ b
    by None None x y = two-sensors script h a b x y at
    by None (Some t) x y = absurd (apart script h b.frame.0 t.stream.0 run (ap (λ (n : ℕ). is_sensor_out h n) (sym at) ∙ x.out) y.out)
    by (Some s) None x y = absurd (apart script h b.frame.0 s.stream.0 run y.out (ap (λ (n : ℕ). is_fill_out h n s.stream.0) (sym at) ∙ x.out))
    by (Some s) (Some t) x y = two-fills script h a b s t run x y at

pub one_job : (script : Script) (h : List Move) (a b : JobView) → IsRun script h → IsJobOut script h a → IsJobOut script h b → a.frame ≡ b.frame → a ≡ b
one_job script h a b run x y at = one-job script h a b run x y (ap (λ (f : FrameNo). f.0) at)
