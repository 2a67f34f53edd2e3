-- A move that takes a job takes some job, and one that gives a job back finds it among those that are out.
use Rattle.std.proofs.Common.{◌≡◌, ℕ, ◌==◌, true, not, List, ◌∷◌, Option, Some, None, refl, sym, ap, ◌∙◌, find, is_some, slice_get, if◌then◌else◌}
use Rattle.std.specs.Option.{option_map}
use Rattle.std.proofs.lemmas.Bool.{and_parts, eq-eqb, false≢true, not-true}
use Rattle.cam_types.specs.declared.job.FillTarget.{FillTarget}
use Rattle.cam_types.specs.declared.job.JobView.{JobView}
use Rattle.cam_types.specs.declared.number.FrameNo.{FrameNo}
use Rattle.cam_types.specs.declared.number.StreamIx.{StreamIx}
use Rattle.cam_types.specs.declared.script.Script.{Script}
use Rattle.cam_types.specs.declared.stream.StreamSpec.{StreamSpec}
use Rattle.trace_model.specs.declared.entry.Entry.{Entry}
use Rattle.trace_model.specs.declared.entry.Entry.TheVariants.{Shutter as ShutterEntry}
use Rattle.trace_model.specs.declared.entry.Sent.{Sent}
use Rattle.trace_model.specs.Configuration.{streams}
use Rattle.trace_model.specs.Frames.{frames, settings_of, target_of, targets_of}
use Rattle.trace_model.specs.Shutter.{may_expose, next_time, shutter_at, shutter_due}
use Rattle.run_model.specs.declared.step.Move.{Move}
use Rattle.run_model.specs.declared.step.StepName.{StepName}
use Rattle.run_model.specs.declared.step.StepName.TheVariants.{Shutter, SensorDone, TakeFill, FillDone}
use Rattle.run_model.specs.History.{trace_of}
use Rattle.run_model.specs.Jobs.{IsFillJob, IsJobOut, is_fill_out, is_filled_in, is_sensor_out, is_taken_in}
use Rattle.run_model.specs.Ready.{may_take_fill, move_of}
use Rattle.run_model.specs.Run.{IsRun}
use Rattle.basic_lemmas.proofs.Tests.{not-by}
use Rattle.run_model.proofs.Legal.{adds, adds-none, runs_legally}
use Rattle.trace_laws.proofs.Shutters.{exposed}
use Rattle.run_model.proofs.Targets.{taken_target}
use Rattle.run_model.proofs.Home.{fill_open}
use Rattle.run_model.proofs.Unsent.{filled-taken, not-done, take-parts}
use Rattle.run_rows.proofs.General.{none-found}
use Rattle.run_rows.proofs.Streams.{found-offered}
use Rattle.fill_jobs.specs.Held.{fill_job_in, held_at, sensor_job_in}
use Rattle.service_parts.specs.Outs.{AreOut, Takes, takes_a_job}
use Rattle.service_parts.proofs.One.{inside}

-- ---- the job of a fill that is out

abbrev pub sensor-job : Script → List Move → FrameNo → JobView
sensor-job script h n = record { frame = n; settings = settings_of script (trace_of h) n.0; fill = None }

abbrev pub fill-job : Script → List Move → FrameNo → FillTarget → JobView
fill-job script h n target = record { frame = n; settings = settings_of script (trace_of h) n.0; fill = Some target }

pub record FillOf (script : Script) (h : List Move) (n : FrameNo) (s : StreamIx) : Type 0 where
  pub target : FillTarget
  pub stream : target.stream ≡ s
  pub out : IsFillJob script h (fill-job script h n target) target

fill-by : (script : Script) (h : List Move) (n : FrameNo) (s : StreamIx) (o : Option Sent) (p : Option StreamSpec) → is_fill_out h n.0 s.0 ≡ true → target_of n.0 s.0 (trace_of h) ≡ o → slice_get (streams script (trace_of h)) s.0 ≡ p → (o ≡ None → ⊥) → is_some p ≡ true → FillOf script h n s
fill-by script h n s None p out at spec some offered = absurd (some refl)
fill-by script h n s (Some t) None out at spec some offered = absurd (false≢true offered)
fill-by script h n s (Some t) (Some x) out at spec some offered = record {
  target = record { stream = s; buffer = t.buffer; spec = x };
  stream = refl;
  out = record {
    out = out;
    settings = refl;
    fill = refl;
    spec = spec;
    buffer = ap (λ (o : Option Sent). option_map (λ u. u.buffer) o) at;
  };
}

found-spec : (script : Script) (h : List Move) (n s : ℕ) (o : Option Sent) → IsRun script h → is_fill_out h n s ≡ true → target_of n s (trace_of h) ≡ o → (o ≡ None → ⊥) → is_some (slice_get (streams script (trace_of h)) s) ≡ true
found-spec script h n s None run out at some = absurd (some refl)
found-spec script h n s (Some t) run out at some = found-offered script (trace_of h) n s t (runs_legally script h run) (fill_open script h n s run out) at

pub fill-out : (script : Script) (h : List Move) (n : FrameNo) (s : StreamIx) → IsRun script h → is_fill_out h n.0 s.0 ≡ true → FillOf script h n s
fill-out script h n s run out =
    let past = trace_of h in
    let taken = (and_parts (is_taken_in h n.0 s.0) (not (is_filled_in h n.0 s.0)) out).0 in
    let some = λ (none : target_of n.0 s.0 past ≡ None). none-found (λ (t : Sent). t.stream.0 == s.0) (targets_of n.0 past) (taken_target script h n.0 s.0 run taken) none in
    fill-by script h n s (target_of n.0 s.0 past) (slice_get (streams script past) s.0) out refl refl some (found-spec script h n.0 s.0 (target_of n.0 s.0 past) run out refl some)

-- ---- some job is taken

abbrev pub SomeTaken : Script → Move → List Move → Type 0
SomeTaken script m h = (job : JobView) × Takes m job × IsJobOut script (m ∷ h) job

shot : (script : Script) (h : List Move) (n : FrameNo) (time : ℕ) → IsRun script (record { step = Shutter; entry = Some (ShutterEntry n time) } ∷ h) → SomeTaken script (record { step = Shutter; entry = Some (ShutterEntry n time) }) h
shot script h n time run =
    let m : Move = record { step = Shutter; entry = Some (ShutterEntry n time) } in
    let past = trace_of h in
    let dark = (exposed script past n time (runs_legally script (m ∷ h) run).0).1 in
    let undone = not-done script h n.0 run.1 dark in
    (sensor-job script (m ∷ h) n, (time, refl), record { out = rw (eq-eqb n.0 n.0 refl, undone) refl; settings = refl; no_fill = refl })

taken : (script : Script) (h : List Move) (n : FrameNo) (s : StreamIx) (o : Option Entry) → IsRun script (record { step = TakeFill n s; entry = o } ∷ h) → SomeTaken script (record { step = TakeFill n s; entry = o }) h
taken script h n s o run =
    let m : Move = record { step = TakeFill n s; entry = o } in
    let may = take-parts script h n.0 s.0 (adds-none (TakeFill n s) (may_take_fill script h n.0 s.0) m run.0).0 in
    let untaken = not-true (is_taken_in h n.0 s.0) may.fresh in
    let unfilled = not-by (is_filled_in h n.0 s.0) (is_taken_in h n.0 s.0) (filled-taken script h n.0 s.0 run.1) untaken in
    let out : is_fill_out (m ∷ h) n.0 s.0 ≡ true = rw (eq-eqb n.0 n.0 refl, eq-eqb s.0 s.0 refl, unfilled) refl in
    let fill = fill-out script (m ∷ h) n s run out in
    (fill-job script (m ∷ h) n fill.target, ap (λ (t : StreamIx). TakeFill n t) (sym fill.stream), fill.out)

-- a shutter's move adds one
shutter-by : (script : Script) (h : List Move) (o : Option ℕ) (e : Entry) → shutter_at script (trace_of h) o ≡ Some e → (n : ℕ) × (time : ℕ) × (e ≡ ShutterEntry (record { 0 = n }) time)
shutter-by script h None e due = absurd (cc)
shutter-by script h (Some n) e due = (n, next_time script (trace_of h), cc)

some-by : (script : Script) (step : StepName) (o : Option Entry) (h : List Move) → IsRun script (record { step = step; entry = o } ∷ h) → takes_a_job step ≡ true → SomeTaken script (record { step = step; entry = o }) h
some-by script Shutter None h run takes = absurd (let a = adds Shutter (shutter_due script (trace_of h)) (record { step = Shutter; entry = None }) run.0 in let wrong = a.2 in cc)
some-by script Shutter (Some e) h run takes =
    let a = adds Shutter (shutter_due script (trace_of h)) (record { step = Shutter; entry = Some e }) run.0 in
    let is = shutter-by script h (find (may_expose script (trace_of h)) (frames (trace_of h))) a.0 a.1 in
    let same : e ≡ ShutterEntry (record { 0 = is.0 }) is.1 = inside e (ShutterEntry (record { 0 = is.0 }) is.1) (a.2 ∙ ap Some is.2) in
    rw (same) (shot script h (record { 0 = is.0 }) is.1 (rw (same) at run))
some-by script (TakeFill n s) o h run takes = taken script h n s o run
some-by script _ o h run takes = absurd (false≢true takes)

pub some_taken : (script : Script) (m : Move) (h : List Move) → IsRun script (m ∷ h) → takes_a_job m.step ≡ true → (job : JobView) × Takes m job × IsJobOut script (m ∷ h) job
some_taken script m h run takes = some-by script m.step m.entry h run takes

-- ---- a job that ends is out

pub sensor_ends : (script : Script) (m : Move) (h : List Move) (jobs : List JobView) (n : FrameNo) → IsRun script h → AreOut script h jobs → move_of script h (SensorDone n) ≡ Some m → (job : JobView) × (sensor_job_in (held_at n.0 jobs) ≡ Some job) × IsJobOut script h job
sensor_ends script m h jobs n run out made =
    let job = sensor-job script h n in
    let is : IsJobOut script h job = record { out = (adds-none (SensorDone n) (is_sensor_out h n.0) m made).0; settings = refl; no_fill = refl } in
    (job, ap sensor_job_in (out.all job is), is)

pub fill_ends : (script : Script) (m : Move) (h : List Move) (jobs : List JobView) (n : FrameNo) (s : StreamIx) → IsRun script h → AreOut script h jobs → move_of script h (FillDone n s) ≡ Some m → (job : JobView) × (fill_job_in s.0 (held_at n.0 jobs) ≡ Some job) × IsJobOut script h job
fill_ends script m h jobs n s run out made =
    let fill = fill-out script h n s run (adds-none (FillDone n s) (is_fill_out h n.0 s.0) m made).0 in
    let job = fill-job script h n fill.target in
    let same : (fill.target.stream.0 == s.0) ≡ true = eq-eqb fill.target.stream.0 s.0 (ap (λ (t : StreamIx). t.0) fill.stream) in
    (job, ap (λ (o : Option JobView). fill_job_in s.0 o) (out.all job fill.out) ∙ ap (λ b. if b then Some job else None) same, fill.out)
