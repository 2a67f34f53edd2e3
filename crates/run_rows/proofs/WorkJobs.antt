-- Which job is out is read from the rows.
use Rattle.std.proofs.Common.{◌≡◌, ℕ, ◌==◌, Bool, true, false, not, List, Option, Some, None, refl, sym, ap, ◌∙◌, inl, inr, is_some, slice_get, if◌then◌else◌}
use Rattle.std.specs.Option.{option_map}
use Rattle.std.proofs.lemmas.Bool.{and_parts, cases_Bool, false≢true}
use Rattle.run_rows.proofs.General.{none-found}
use Rattle.basic_lemmas.proofs.Tests.{given-where}
use Rattle.cam_types.specs.declared.item.Settings.{Settings}
use Rattle.cam_types.specs.declared.job.FillTarget.{FillTarget}
use Rattle.cam_types.specs.declared.job.JobView.{JobView}
use Rattle.cam_types.specs.declared.number.BufferId.{BufferId}
use Rattle.cam_types.specs.declared.row.RowView.{RowView}
use Rattle.cam_types.specs.declared.row.TargetView.{TargetView}
use Rattle.cam_types.specs.declared.script.Script.{Script}
use Rattle.cam_types.specs.declared.stream.StreamSpec.{StreamSpec}
use Rattle.trace_model.specs.declared.entry.Sent.{Sent}
use Rattle.trace_model.specs.Configuration.{streams}
use Rattle.trace_model.specs.Frames.{settings_of, target_of, targets_of}
use Rattle.trace_model.specs.Open.{is_open}
use Rattle.run_model.specs.declared.step.Move.{Move}
use Rattle.run_model.specs.History.{trace_of}
use Rattle.run_model.specs.Jobs.{IsFillJob, IsSensorJob, is_fill_out, is_filled_in, is_sensor_out, is_taken_in}
use Rattle.run_model.specs.Rows.{row_of, rows, sensor_place, target_state}
use Rattle.run_model.specs.Run.{IsRun}
use Rattle.device_rows.specs.Jobs as device
use Rattle.device_rows.specs.Jobs.{fill_job, fill_job_at, fill_job_in, fill_job_of, sensor_job, sensor_job_at, sensor_job_of}
use Rattle.device_rows.specs.Ready as ready
use Rattle.device_rows.specs.Rows.{row_at, target_at}
use Rattle.run_model.proofs.Legal.{runs_legally}
use Rattle.run_model.proofs.Targets.{taken_target}
use Rattle.run_model.proofs.Home.{fill_open}
use Rattle.run_rows.proofs.Fours.{by-target, no-view, view-found, view_at}
use Rattle.run_rows.proofs.Frames.{by-row, row-found}
use Rattle.run_rows.proofs.States.{place-out}
use Rattle.run_rows.proofs.Streams.{found-offered}
use Rattle.run_rows.proofs.Work.{sensor-closed, state-busy}

pub open-found : (script : Script) (h : List Move) (n : ℕ) → is_open n (trace_of h) ≡ true → row_at n (rows script h) ≡ Some (row_of script h n)
open-found script h n open_ = row-found script h n ∙ rw open_ refl

closed-found : (script : Script) (h : List Move) (n : ℕ) → is_open n (trace_of h) ≡ false → row_at n (rows script h) ≡ None
closed-found script h n closed = row-found script h n ∙ rw closed refl

-- ---- the sensor's

sensor-open : (script : Script) (h : List Move) (n : ℕ) → IsRun script h → is_sensor_out h n ≡ true → is_open n (trace_of h) ≡ true
sensor-open script h n run out = elim (cases_Bool (is_open n (trace_of h))) [
  | inl open_ ↦ open_
  | inr closed ↦ absurd (false≢true (sym (sensor-closed script h n run closed) ∙ out))
]

same-job : (job : JobView) (s : Settings) (f : Option FillTarget) → job.settings ≡ s → job.fill ≡ f → ◌≡◌ {A = JobView} (record { frame = job.frame; settings = s; fill = f }) job
same-job job s f a b = let k : ◌≡◌ {A = JobView} (record { frame = job.frame; settings = s; fill = f }) (record { frame = job.frame; settings = job.settings; fill = job.fill }) = rw (a, b) refl in k

pub sensor_job_from : (script : Script) (h : List Move) (job : JobView) → IsRun script h → IsSensorJob script h job → sensor_job_at job.frame.0 (rows script h) ≡ Some job
sensor_job_from script h job run is =
    let n = job.frame.0 in
    let open_ = sensor-open script h n run is.out in
    let place : ready.is_sensor_out (sensor_place h n) ≡ true = place-out h n ∙ is.out in
    ap sensor_job_of (open-found script h n open_)
    ∙ (ap (λ b. if b then Some (sensor_job (row_of script h n)) else None) place ∙ ap Some (same-job job (settings_of script (trace_of h) n) None is.settings is.no_fill))

sensor-job-by : (script : Script) (h : List Move) (job : JobView) (o : Option RowView) → row_at job.frame.0 (rows script h) ≡ o → (is_open job.frame.0 (trace_of h) ≡ true → o ≡ Some (row_of script h job.frame.0)) → (is_open job.frame.0 (trace_of h) ≡ false → o ≡ None) → sensor_job_of o ≡ Some job → IsSensorJob script h job
sensor-job-by script h job o at open_ closed is = elim (cases_Bool (is_open job.frame.0 (trace_of h))) [
  | inl yes' ↦ (
      let n = job.frame.0 in
      let is' : (if ready.is_sensor_out (sensor_place h n) then Some (sensor_job (row_of script h n)) else None) ≡ Some job = ap sensor_job_of (sym (open_ yes')) ∙ is in
      let both = given-where (ready.is_sensor_out (sensor_place h n)) (sensor_job (row_of script h n)) job is' in
      record {
        out = sym (place-out h n) ∙ both.0;
        settings = ap (λ (j : JobView). j.settings) (sym both.1);
        no_fill = ap (λ (j : JobView). j.fill) (sym both.1);
      }
      )
  | inr no' ↦ (let wrong : sensor_job_of None ≡ Some job = ap sensor_job_of (sym (closed no')) ∙ is in absurd (cc))
]

pub sensor_job_to : (script : Script) (h : List Move) (job : JobView) → sensor_job_at job.frame.0 (rows script h) ≡ Some job → IsSensorJob script h job
sensor_job_to script h job is =
    sensor-job-by script h job (row_at job.frame.0 (rows script h)) refl (open-found script h job.frame.0) (closed-found script h job.frame.0) is

-- ---- a stage's

not-taken : (script : Script) (h : List Move) (n s : ℕ) → IsRun script h → target_of n s (trace_of h) ≡ None → is_fill_out h n s ≡ false
not-taken script h n s run at = elim (cases_Bool (is_fill_out h n s)) [
  | inl out ↦ absurd (none-found (λ t. t.stream.0 == s) (targets_of n (trace_of h)) (taken_target script h n s run (and_parts (is_taken_in h n s) (not (is_filled_in h n s)) out).0) at)
  | inr no' ↦ no'
]

fill-some : (row : RowView) (v : TargetView) (o : Option StreamSpec) (b : Bool) → is_some o ≡ true → device.is_fill_out v.state ≡ b → b ≡ is_some (fill_job_of row (Some v) o)
fill-some row v None b some at = absurd (false≢true some)
fill-some row v (Some spec) b some at = sym at ∙ by (device.is_fill_out v.state) (fill_job row v spec)
  where
    by : (b : Bool) (j : JobView) → b ≡ is_some (if b then Some j else None)
    by true j = refl
    by false j = refl

none-fill : (row : RowView) (o : Option StreamSpec) → is_some (fill_job_of row None o) ≡ false
none-fill row None = refl
none-fill row (Some spec) = refl

fill-open : (script : Script) (h : List Move) (n s : ℕ) → IsRun script h → is_open n (trace_of h) ≡ true → is_fill_out h n s ≡ is_some (fill_job_of (row_of script h n) (target_at s (row_of script h n)) (slice_get (streams script (trace_of h)) s))
fill-open script h n s run open_ =
    let past = trace_of h in
    by-target script h n s (λ o. is_some (fill_job_of (row_of script h n) o (slice_get (streams script past) s))) (λ o. is_fill_out h n s)
    (λ at. not-taken script h n s run at ∙ sym (none-fill (row_of script h n) (slice_get (streams script past) s)))
    (λ t at. fill-some (row_of script h n) (view_at h n s t) (slice_get (streams script past) s) (is_fill_out h n s) (found-offered script past n s t (runs_legally script h run) open_ at) (state-busy script h n s run))

pub fill_is : (script : Script) (h : List Move) (n s : ℕ) → IsRun script h → is_fill_out h n s ≡ is_some (fill_job_at (streams script (trace_of h)) n s (rows script h))
fill_is script h n s run =
    by-row script h n (λ row. is_some (fill_job_in (streams script (trace_of h)) s row)) (is_fill_out h n s)
    (λ open_. fill-open script h n s run open_)
    (λ closed. elim (cases_Bool (is_fill_out h n s)) [
      | inl out ↦ absurd (false≢true (sym closed ∙ fill_open script h n s run out))
      | inr no' ↦ no'
    ])

-- the buffer of the target is the job's
buffer-by : (o : Option Sent) (b : BufferId) → option_map (λ (t : Sent). t.buffer) o ≡ Some b → (t : Sent) × (o ≡ Some t) × (t.buffer ≡ b)
buffer-by None b h = absurd (cc)
buffer-by (Some t) b h = (t, refl, cc)

same-fill : (job : JobView) (target : FillTarget) (s : Settings) (b : BufferId) → job.settings ≡ s → job.fill ≡ Some target → b ≡ target.buffer → ◌≡◌ {A = JobView} (record { frame = job.frame; settings = s; fill = Some (record { stream = target.stream; buffer = b; spec = target.spec }) }) job
same-fill job target s b x y z = let k : ◌≡◌ {A = JobView} (record { frame = job.frame; settings = s; fill = Some (record { stream = target.stream; buffer = b; spec = target.spec }) }) (record { frame = job.frame; settings = job.settings; fill = job.fill }) = rw (x, y, z) refl in k

pub fill_job_from : (script : Script) (h : List Move) (job : JobView) (target : FillTarget) → IsRun script h → IsFillJob script h job target → fill_job_at (streams script (trace_of h)) job.frame.0 target.stream.0 (rows script h) ≡ Some job
fill_job_from script h job target run is =
    let past = trace_of h in
    let n = job.frame.0 in
    let s = target.stream.0 in
    let row = row_of script h n in
    let open_ = fill_open script h n s run is.out in
    let found = buffer-by (target_of n s past) target.buffer is.buffer in
    let t : Sent = found.0 in
    let busy : device.is_fill_out (target_state h n s) ≡ true = state-busy script h n s run ∙ is.out in
    let at = view-found script h n s t found.1 in
    ap (λ (o : Option RowView). fill_job_in (streams script past) s o) (open-found script h n open_)
    ∙ (both (λ o p. fill_job_of row o p) _ _ _ _ at is.spec
    ∙ (ap (λ b. if b then Some (fill_job row (view_at h n s t) target.spec) else None) busy
    ∙ ap Some (same-fill job target (settings_of script past n) t.buffer is.settings is.fill found.2)))
  where
    both : (f : Option TargetView → Option StreamSpec → Option JobView) (a a' : Option TargetView) (b b' : Option StreamSpec) → a ≡ a' → b ≡ b' → f a b ≡ f a' b'
    both f a a' b b' x y = rw (x, y) refl

fill-parts : (h : List Move) (n s : ℕ) (target : FillTarget) (t : Sent) (spec : StreamSpec) (f : Option FillTarget) → f ≡ Some target → Some (record { stream = record { 0 = s }; buffer = t.buffer; spec = spec }) ≡ f → (t.buffer ≡ target.buffer) × (spec ≡ target.spec)
fill-parts h n s target t spec f at is =
    let same : ◌≡◌ {A = Option FillTarget} (Some (record { stream = record { 0 = s }; buffer = t.buffer; spec = spec })) (Some target) = is ∙ at in
    (ap (λ (o : Option FillTarget). buffer_in o) same, ap (λ (o : Option FillTarget). spec_in o) same)
  where
    buffer_in : Option FillTarget → BufferId
    buffer_in (Some x) = x.buffer
    buffer_in None = t.buffer

    spec_in : Option FillTarget → StreamSpec
    spec_in (Some x) = x.spec
    spec_in None = spec

fill-job-by : (script : Script) (h : List Move) (job : JobView) (target : FillTarget) (o : Option Sent) (p : Option StreamSpec) → IsRun script h → job.fill ≡ Some target → target_of job.frame.0 target.stream.0 (trace_of h) ≡ o → slice_get (streams script (trace_of h)) target.stream.0 ≡ p → fill_job_of (row_of script h job.frame.0) (target_at target.stream.0 (row_of script h job.frame.0)) p ≡ Some job → IsFillJob script h job target
fill-job-by script h job target None p run fill at spec is =
    let none : fill_job_of (row_of script h job.frame.0) None p ≡ Some job = ap (λ (o : Option TargetView). fill_job_of (row_of script h job.frame.0) o p) (sym (no-view script h job.frame.0 target.stream.0 at)) ∙ is in
    absurd (by (row_of script h job.frame.0) p none)
  where
    by : (row : RowView) (p : Option StreamSpec) → fill_job_of row None p ≡ Some job → ⊥
    by row None h = cc
    by row (Some x) h = cc
fill-job-by script h job target (Some t) None run fill at spec is =
    let none : fill_job_of (row_of script h job.frame.0) (Some (view_at h job.frame.0 target.stream.0 t)) None ≡ Some job = ap (λ (o : Option TargetView). fill_job_of (row_of script h job.frame.0) o None) (sym (view-found script h job.frame.0 target.stream.0 t at)) ∙ is in
    absurd (cc)
fill-job-by script h job target (Some t) (Some x) run fill at spec is =
    let n = job.frame.0 in
    let s = target.stream.0 in
    let row = row_of script h n in
    let v = view_at h n s t in
    let is' : (if device.is_fill_out (target_state h n s) then Some (fill_job row v x) else None) ≡ Some job = ap (λ (o : Option TargetView). fill_job_of row o (Some x)) (sym (view-found script h n s t at)) ∙ is in
    let both = given-where (device.is_fill_out (target_state h n s)) (fill_job row v x) job is' in
    let parts = fill-parts h n s target t x job.fill fill (ap (λ (j : JobView). j.fill) both.1) in
    record {
      out = sym (state-busy script h n s run) ∙ both.0;
      settings = ap (λ (j : JobView). j.settings) (sym both.1);
      fill = fill;
      spec = spec ∙ ap Some parts.1;
      buffer = ap (λ (o : Option Sent). option_map (λ u. u.buffer) o) at ∙ ap Some parts.0;
    }

pub fill_job_to : (script : Script) (h : List Move) (job : JobView) (target : FillTarget) → IsRun script h → job.fill ≡ Some target → fill_job_at (streams script (trace_of h)) job.frame.0 target.stream.0 (rows script h) ≡ Some job → IsFillJob script h job target
fill_job_to script h job target run fill is = elim (cases_Bool (is_open job.frame.0 (trace_of h))) [
  | inl open_ ↦ (
      let is' = ap (λ (o : Option RowView). fill_job_in (streams script (trace_of h)) target.stream.0 o) (sym (open-found script h job.frame.0 open_)) ∙ is in
      fill-job-by script h job target (target_of job.frame.0 target.stream.0 (trace_of h)) (slice_get (streams script (trace_of h)) target.stream.0) run fill refl refl is'
      )
  | inr closed ↦ (
      let wrong : fill_job_in (streams script (trace_of h)) target.stream.0 None ≡ Some job = ap (λ (o : Option RowView). fill_job_in (streams script (trace_of h)) target.stream.0 o) (sym (closed-found script h job.frame.0 closed)) ∙ is in
      absurd (cc)
      )
]
