-- The list of jobs that a history determines is that of the jobs that are out, and what each move makes of it.
use Rattle.std.proofs.Common.{◌≡◌, ℕ, Bool, true, false, List, [], ◌∷◌, Option, Some, None, refl, sym, ap, ◌∙◌, subst, Contains, IsPermutation, option_map, slice_get}
use Rattle.std.proofs.lemmas.Bool.{false≢true}
use Rattle.cam_types.specs.declared.job.FillTarget.{FillTarget}
use Rattle.cam_types.specs.declared.job.JobView.{JobView}
use Rattle.cam_types.specs.declared.number.FrameNo.{FrameNo}
use Rattle.cam_types.specs.declared.number.StreamIx.{StreamIx}
use Rattle.cam_types.specs.declared.script.Script.{Script}
use Rattle.cam_types.specs.declared.stream.StreamSpec.{StreamSpec}
use Rattle.trace_model.specs.declared.entry.Entry.{Entry}
use Rattle.trace_model.specs.declared.entry.Entry.TheVariants.{Shutter as ShutterEntry}
use Rattle.trace_model.specs.declared.entry.Sent.{Sent}
use Rattle.trace_model.specs.Configuration.{streams}
use Rattle.trace_model.specs.Frames.{target_of}
use Rattle.run_model.specs.declared.step.Move.{Move}
use Rattle.run_model.specs.declared.step.StepName.{StepName}
use Rattle.run_model.specs.declared.step.StepName.TheVariants.{Shutter, SensorDone, TakeFill, FillDone}
use Rattle.run_model.specs.History.{is_silent, trace_of}
use Rattle.run_model.specs.Jobs.{IsFillJob, IsJobOut, IsOutWith, IsSensorJob, is_fill_out, is_sensor_out}
use Rattle.run_model.specs.Ready.{move_of}
use Rattle.run_model.specs.Run.{IsRun}
use Rattle.run_model.proofs.Legal.{adds-none}
use Rattle.fill_jobs.specs.Held.{IsWith}
use Rattle.service_parts.specs.Outs.{AreOut, Takes, TakesWith, moves_a_job, takes_a_job}
use Rattle.service_parts.proofs.JobGiven.{fill-job, fill-out, some_taken}
use Rattle.service_parts.proofs.Moved.{gives-back, none_at_first, none_before, others_leave, takes_out}
use Rattle.service_parts.proofs.Held.{first-held}
use Rattle.service_parts.proofs.JobShapes.{silent-none}
use Rattle.service_core.specs.Answers.{IsNoJobOut}
use Rattle.shared_camera.specs.JobsOut.{after_step, exposed_by, filled_by, filling, job_on, jobs_out, with_job, without_frame}
use Rattle.shared_camera.specs.Turns.{Gives, GivesWith}
use Rattle.shared_camera.proofs.Lists.{contained-found, not-contained, one-less, with-permuted}

-- ---- the job that a move takes out

job-same : (a b : JobView) → a.frame ≡ b.frame → a.settings ≡ b.settings → a.fill ≡ b.fill → a ≡ b
job-same a b x y z = let k : ◌≡◌ {A = JobView} (record { frame = a.frame; settings = a.settings; fill = a.fill }) (record { frame = b.frame; settings = b.settings; fill = b.fill }) = rw (x, y, z) refl in k

exposed-is : (script : Script) (h : List Move) (job : JobView) (time : ℕ) (o : Option Entry) → o ≡ Some (ShutterEntry job.frame time) → IsSensorJob script h job → exposed_by script h o ≡ Some job
exposed-is script h job time o at is =
    ap (λ (e : Option Entry). exposed_by script h e) at ∙ ap Some (job-same (job_on script h job.frame None) job refl (sym is.settings) (sym is.no_fill))

filling-is : (target : FillTarget) (o : Option StreamSpec) (p : Option Sent) → o ≡ Some target.spec → option_map (λ t. t.buffer) p ≡ Some target.buffer → filling target.stream o p ≡ Some target
filling-is target None p spec buffer = absurd (cc)
filling-is target (Some x) None spec buffer = absurd (cc)
filling-is target (Some x) (Some t) spec buffer =
    let s : x ≡ target.spec = cc in
    let b : t.buffer ≡ target.buffer = cc in
    let k : ◌≡◌ {A = FillTarget} (record { stream = target.stream; buffer = t.buffer; spec = x }) (record { stream = target.stream; buffer = target.buffer; spec = target.spec }) = rw (s, b) refl in
    ap Some k

filled-is : (script : Script) (h : List Move) (job : JobView) (target : FillTarget) → IsFillJob script h job target → filled_by script h job.frame target.stream ≡ Some job
filled-is script h job target is =
    ap (λ (o : Option FillTarget). option_map (λ t. job_on script h job.frame (Some t)) o) (filling-is target (slice_get (streams script (trace_of h)) target.stream.0) (target_of job.frame.0 target.stream.0 (trace_of h)) is.spec is.buffer)
    ∙ ap Some (job-same (job_on script h job.frame (Some target)) job refl (sym is.settings) (sym is.fill))

-- it is added in front
added : (script : Script) (m : Move) (h : List Move) (jobs : List JobView) (job : JobView) (step : StepName) → m.step ≡ step → takes_a_job step ≡ true → IsRun script (m ∷ h) → Takes m job → IsJobOut script (m ∷ h) job
    → after_step script (m ∷ h) step m.entry jobs ≡ job ∷ jobs
added script m h jobs job Shutter at does run takes is = by job.fill takes is
  where
    by : (o : Option FillTarget) → TakesWith m job o → IsOutWith script (m ∷ h) job o → after_step script (m ∷ h) Shutter m.entry jobs ≡ job ∷ jobs
    by None takes is = ap (λ (o : Option JobView). with_job o jobs) (exposed-is script (m ∷ h) job takes.0 m.entry takes.1 is)
    by (Some target) takes is = absurd (cc (at, takes))
added script m h jobs job (TakeFill n s) at does run takes is = by job.fill takes is
  where
    by : (o : Option FillTarget) → TakesWith m job o → IsOutWith script (m ∷ h) job o → after_step script (m ∷ h) (TakeFill n s) m.entry jobs ≡ job ∷ jobs
    by None takes is = absurd (let none = silent-none script h m.step m run.0 (ap is_silent at) in cc (none, takes.1))
    by (Some target) takes is =
        let frame : n ≡ job.frame = cc (at, takes) in
        let stream : s ≡ target.stream = cc (at, takes) in
        ap (λ (o : Option JobView). with_job o jobs) (ap (λ (k : FrameNo). filled_by script (m ∷ h) k s) frame ∙ (ap (λ (t : StreamIx). filled_by script (m ∷ h) job.frame t) stream ∙ filled-is script (m ∷ h) job target is))
added script m h jobs job _ at does run takes is = absurd (false≢true does)

-- ---- after each move

takes-one : (script : Script) (m : Move) (h : List Move) (step : StepName) (jobs : List JobView) → m.step ≡ step → takes_a_job step ≡ true → IsRun script (m ∷ h) → AreOut script h jobs → AreOut script (m ∷ h) (after_step script (m ∷ h) step m.entry jobs)
takes-one script m h step jobs at does run out =
    let t = some_taken script m h run (ap takes_a_job at ∙ does) in
    let with_ : IsWith t.0 jobs (t.0 ∷ jobs) = record { before = []; after = jobs; old_is = refl; new_is = refl } in
    subst (λ (js : List JobView). AreOut script (m ∷ h) js) (sym (added script m h jobs t.0 step at does run t.1 t.2)) (takes_out script m h jobs (t.0 ∷ jobs) t.0 run out t.1 t.2 with_)

by-step : (script : Script) (m : Move) (h : List Move) (step : StepName) (jobs : List JobView) → m.step ≡ step → IsRun script (m ∷ h) → AreOut script h jobs → AreOut script (m ∷ h) (after_step script (m ∷ h) step m.entry jobs)
by-step script m h Shutter jobs at run out = takes-one script m h Shutter jobs at refl run out
by-step script m h (TakeFill n s) jobs at run out = takes-one script m h (TakeFill n s) jobs at refl run out
by-step script m h (SensorDone n) jobs at run out =
    let made : move_of script h (SensorDone n) ≡ Some m = ap (λ (step : StepName). move_of script h step) (sym at) ∙ run.0 in
    let job : JobView = job_on script h n None in
    let is : IsJobOut script h job = record { out = (adds-none (SensorDone n) (is_sensor_out h n.0) m made).0; settings = refl; no_fill = refl } in
    gives-back script m h jobs (without_frame n jobs) job run out at (one-less n jobs job out.once (out.all job is))
by-step script m h (FillDone n s) jobs at run out =
    let made : move_of script h (FillDone n s) ≡ Some m = ap (λ (step : StepName). move_of script h step) (sym at) ∙ run.0 in
    let fill = fill-out script h n s run.1 (adds-none (FillDone n s) (is_fill_out h n.0 s.0) m made).0 in
    let job : JobView = fill-job script h n fill.target in
    let gives : m.step ≡ FillDone n fill.target.stream = at ∙ ap (λ (t : StreamIx). FillDone n t) (sym fill.stream) in
    gives-back script m h jobs (without_frame n jobs) job run out gives (one-less n jobs job out.once (out.all job fill.out))
by-step script m h _ jobs at run out = others_leave script m h jobs run (ap moves_a_job at) out

pub are_out : (script : Script) (h : List Move) → IsRun script h → AreOut script h (jobs_out script h)
are_out script [] run = none_at_first script
are_out script (m ∷ h) run = by-step script m h m.step (jobs_out script h) refl run (are_out script h run.1)

-- ---- what a turn asks

-- a job in the list is out
pub contained-out : (script : Script) (h : List Move) (job : JobView) → IsRun script h → Contains (jobs_out script h) job → IsJobOut script h job
contained-out script h job run at = let out = are_out script h run in out.held job.frame.0 job (contained-found (jobs_out script h) job out.once at)

-- other moves leave the list
left-by : (script : Script) (h : List Move) (step : StepName) (o : Option Entry) (jobs : List JobView) → moves_a_job step ≡ false → after_step script h step o jobs ≡ jobs
left-by script h Shutter o jobs idle = absurd (false≢true (sym idle))
left-by script h (TakeFill n s) o jobs idle = absurd (false≢true (sym idle))
left-by script h (SensorDone n) o jobs idle = absurd (false≢true (sym idle))
left-by script h (FillDone n s) o jobs idle = absurd (false≢true (sym idle))
left-by script h _ o jobs idle = refl

pub same-jobs : (script : Script) (m : Move) (h : List Move) → moves_a_job m.step ≡ false → jobs_out script (m ∷ h) ≡ jobs_out script h
same-jobs script m h idle = left-by script (m ∷ h) m.step m.entry (jobs_out script h) idle

-- a job that is taken stands in front, and stood nowhere before
pub one-more : (script : Script) (m : Move) (h : List Move) (job : JobView) → takes_a_job m.step ≡ true → IsRun script (m ∷ h) → Takes m job → IsJobOut script (m ∷ h) job
    → (jobs_out script (m ∷ h) ≡ job ∷ jobs_out script h) × (Contains (jobs_out script h) job → ⊥)
one-more script m h job does run takes is =
    (added script m h (jobs_out script h) job m.step refl does run takes is, not-contained (jobs_out script h) job (none_before script m h (jobs_out script h) job run (are_out script h run.1) takes is))

-- a job that is given back stands there no more
given-by : (script : Script) (m : Move) (h : List Move) (job : JobView) (jobs : List JobView) (o : Option FillTarget) → GivesWith m job o → after_step script (m ∷ h) m.step m.entry jobs ≡ without_frame job.frame jobs
given-by script m h job jobs None gives = ap (λ (step : StepName). after_step script (m ∷ h) step m.entry jobs) gives
given-by script m h job jobs (Some target) gives = ap (λ (step : StepName). after_step script (m ∷ h) step m.entry jobs) gives

pub one-fewer : (script : Script) (m : Move) (h : List Move) (job : JobView) → IsRun script h → Gives m job → Contains (jobs_out script h) job → IsPermutation (jobs_out script h) (job ∷ jobs_out script (m ∷ h))
one-fewer script m h job run gives at =
    let jobs : List JobView = jobs_out script h in
    let once = (are_out script h run).once in
    let less = one-less job.frame jobs job once (contained-found jobs job once at) in
    subst (λ (js : List JobView). IsPermutation jobs (job ∷ js)) (sym (given-by script m h job jobs job.fill gives)) (with-permuted job (without_frame job.frame jobs) jobs less)

-- ---- where no job is out

none-with : (script : Script) (h : List Move) (job : JobView) (o : Option FillTarget) → IsNoJobOut h → IsOutWith script h job o → ⊥
none-with script h job None none is = false≢true (sym (none.sensor job.frame.0) ∙ is.out)
none-with script h job (Some target) none is = false≢true (sym (none.stages job.frame.0 target.stream.0) ∙ is.out)

none-in : (script : Script) (h : List Move) (jobs : List JobView) → IsNoJobOut h → AreOut script h jobs → jobs ≡ []
none-in script h [] none out = refl
none-in script h (job ∷ jobs) none out = absurd (none-with script h job job.fill none (out.held job.frame.0 job (first-held job jobs)))

pub none-out : (script : Script) (h : List Move) → IsRun script h → IsNoJobOut h → jobs_out script h ≡ []
none-out script h run none = none-in script h (jobs_out script h) none (are_out script h run)
