-- A step that is made: the run goes on by its move, and the jobs that are out follow.
use Rattle.std.proofs.Common.{arith, ◌≡◌, ◌<◌, ℕ, true, List, ◌∷◌, Option, Some, None, refl, ◌∙◌, ap, is_some, is_none, inl, inr, length}
use Rattle.std.specs.Option.{option_map}
use Rattle.std.proofs.lemmas.Bool.{cases_Bool, eqb-true, false≢true}
use Rattle.cam_types.specs.Script.{is_valid}
use Rattle.cam_types.specs.declared.job.FillTarget.{FillTarget}
use Rattle.cam_types.specs.declared.job.JobView.{JobView}
use Rattle.cam_types.specs.declared.number.FrameNo.{FrameNo}
use Rattle.cam_types.specs.declared.number.StreamIx.{StreamIx}
use Rattle.cam_types.specs.declared.script.Script.{Script}
use Rattle.trace_model.specs.declared.entry.Entry.{Entry}
use Rattle.trace_model.specs.declared.entry.Entry.TheVariants.{Shutter as ShutterEntry}
use Rattle.run_model.specs.declared.step.Move.{Move}
use Rattle.run_model.specs.declared.step.StepName.{StepName}
use Rattle.run_model.specs.declared.step.StepName.TheVariants.{TakeFill}
use Rattle.run_model.specs.Jobs.{IsJobOut}
use Rattle.run_model.specs.Ready.{is_ready, move_of}
use Rattle.run_model.specs.Run.{IsRun}
use Rattle.run_model.specs.State.{State}
use Rattle.fill_jobs.specs.Held.{IsWith, fill_job_in, held_at, is_of_stream, sensor_job_in}
use Rattle.service_parts.specs.Outs.{AreOut, Takes, TakesWith, takes_a_job}
use Rattle.service_parts.proofs.Few.{depth_few, room_left}
use Rattle.service_parts.proofs.Held.{held-frame}
use Rattle.service_core.specs.Answers.{after}
use Rattle.service_parts.proofs.Moved.{fill-found, takes_out}

-- ---- the run with one more move

pub run_on : (old new : State) (m : Move) → new ≡ after m old → IsRun new.script new.history → IsRun old.script (m ∷ old.history)
run_on old new m left run = rw left at run

valid_on : (old new : State) (m : Move) → new ≡ after m old → is_valid new.script ≡ true → is_valid old.script ≡ true
valid_on old new m left valid = rw left at valid

job_on : (old new : State) (m : Move) (job : JobView) → new ≡ after m old → IsJobOut new.script new.history job → IsJobOut old.script (m ∷ old.history) job
job_on old new m job left out = rw left at out

pub jobs_on : (old new : State) (m : Move) (jobs : List JobView) → new ≡ after m old → AreOut old.script (m ∷ old.history) jobs → AreOut new.script new.history jobs
jobs_on old new m jobs left out = rw left out

-- the hands have room for the job that a move takes
pub has_place : (old new : State) (m : Move) (jobs : List JobView) → new ≡ after m old → IsRun new.script new.history → is_valid new.script ≡ true → AreOut old.script old.history jobs → takes_a_job m.step ≡ true → length jobs < 16
has_place old new m jobs left run valid out takes =
    let few = room_left old.script m old.history jobs (run_on old new m left run) out takes in
    let depth = depth_few old.script (valid_on old new m left valid) in
    omega (arith, few, depth)

-- and hold the jobs that are out once it is put there
pub taken_on : (old new : State) (m : Move) (job : JobView) (jobs held : List JobView) → new ≡ after m old → IsRun new.script new.history → AreOut old.script old.history jobs → Takes m job → IsJobOut new.script new.history job → IsWith job jobs held → AreOut new.script new.history held
taken_on old new m job jobs held left run out takes is with_ =
    jobs_on old new m held left (takes_out old.script m old.history jobs held job (run_on old new m left run) out takes (job_on old new m job left is) with_)

-- ---- a step that is ready has a move

some-move : (o : Option Move) → is_some o ≡ true → (m : Move) × (o ≡ Some m)
some-move (Some m) h = (m, refl)
some-move None h = absurd (false≢true h)

pub ready_move : (script : Script) (h : List Move) (step : StepName) → is_ready script h step ≡ true → (m : Move) × (move_of script h step ≡ Some m)
ready_move script h step ready = some-move (move_of script h step) ready

-- ---- the job that a move takes

pub exposure_taken : (m : Move) (job : JobView) (time : ℕ) (e : Entry) → m.entry ≡ Some e → e ≡ ShutterEntry job.frame time → job.fill ≡ None → Takes m job
exposure_taken m job time e own is none = rw none (time, own ∙ ap (λ (x : Entry). Some x) is)

fill-taken : (m : Move) (job : JobView) (s : StreamIx) (o : Option FillTarget) → m.step ≡ TakeFill job.frame s → option_map (λ t. t.stream) o ≡ Some s → TakesWith m job o
fill-taken m job s (Some t) own is = let same : t.stream ≡ s = cc in rw same own
fill-taken m job s None own is = absurd (cc)

pub fill_taken : (m : Move) (job : JobView) (n : FrameNo) (s : StreamIx) → m.step ≡ TakeFill n s → job.frame ≡ n → option_map (λ t. t.stream) job.fill ≡ Some s → Takes m job
fill_taken m job n s own frame is = fill-taken m job s job.fill (rw frame own) is

-- ---- the job that a move gives back

abbrev frame-of : ℕ → FrameNo
frame-of n = record { 0 = n }

frame-same : (a b : FrameNo) → a.0 ≡ b.0 → a ≡ b
frame-same a b e = ap frame-of e

pub exposure_in : (o : Option JobView) (job : JobView) → sensor_job_in o ≡ Some job → o ≡ Some job
exposure_in None job h = absurd (cc)
exposure_in (Some j) job h = elim (cases_Bool (is_none j.fill)) [
  | inl y ↦ rw y at h
  | inr n ↦ (let h' = rw n at h in absurd (cc))
]

pub exposure_of : (jobs : List JobView) (job : JobView) (n : FrameNo) → sensor_job_in (held_at n.0 jobs) ≡ Some job → job.frame ≡ n
exposure_of jobs job n h = frame-same job.frame n (held-frame n.0 jobs job (exposure_in (held_at n.0 jobs) job h))

-- a job that was worked on is out as it was
pub worked_out : (script : Script) (h : List Move) (worked job : JobView) → worked ≡ job → IsJobOut script h job → IsJobOut script h worked
worked_out script h worked job same out = rw same out

-- a stage's job of frame n for stream s
pub record IsFillOf (n : FrameNo) (s : StreamIx) (job : JobView) : Type 0 where
  pub target : FillTarget
  pub fill : job.fill ≡ Some target
  pub frame : job.frame ≡ n
  pub stream : target.stream ≡ s

abbrev stream-of : ℕ → StreamIx
stream-of n = record { 0 = n }

stream-same : (a b : StreamIx) → a.0 ≡ b.0 → a ≡ b
stream-same a b e = ap stream-of e

target-in : (n : FrameNo) (s : StreamIx) (job : JobView) (o : Option FillTarget) → job.fill ≡ o → job.frame ≡ n → is_of_stream s.0 o ≡ true → IsFillOf n s job
target-in n s job None is frame h = absurd (false≢true h)
target-in n s job (Some t) is frame h = record { target = t; fill = is; frame = frame; stream = stream-same t.stream s (eqb-true t.stream.0 s.0 h) }

pub fill_of : (jobs : List JobView) (job : JobView) (n : FrameNo) (s : StreamIx) → fill_job_in s.0 (held_at n.0 jobs) ≡ Some job → IsFillOf n s job
fill_of jobs job n s h =
    let found = fill-found s.0 (held_at n.0 jobs) job h in
    target-in n s job job.fill refl (frame-same job.frame n (held-frame n.0 jobs job found.0)) found.1
