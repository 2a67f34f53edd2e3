-- The jobs that are out after each move.
use Rattle.std.proofs.Common.{◌≡◌, ℕ, ◌==◌, Bool, true, false, ◌&&◌, not, List, [], ◌∷◌, ◌++◌, Option, Some, None, refl, sym, ap, ◌∙◌, inl, inr, is_none}
use Rattle.std.proofs.lemmas.Bool.{and_parts, cases_Bool, eq-eqb, eqb-true, false≢true}
use Rattle.cam_types.specs.declared.job.FillTarget.{FillTarget}
use Rattle.cam_types.specs.declared.job.JobView.{JobView}
use Rattle.cam_types.specs.declared.number.FrameNo.{FrameNo}
use Rattle.cam_types.specs.declared.number.StreamIx.{StreamIx}
use Rattle.cam_types.specs.declared.script.Script.{Script}
use Rattle.trace_model.specs.declared.entry.Entry.{Entry}
use Rattle.trace_model.specs.declared.entry.Entry.TheVariants.{Shutter as ShutterEntry}
use Rattle.trace_model.specs.Entry.{is_shutter}
use Rattle.trace_model.specs.Frames.{has_shutter}
use Rattle.trace_model.specs.Legal.{IsLegal}
use Rattle.run_model.specs.declared.step.Move.{Move}
use Rattle.run_model.specs.declared.step.StepName.{StepName}
use Rattle.run_model.specs.declared.step.StepName.TheVariants.{SensorDone, TakeFill, FillDone}
use Rattle.run_model.specs.History.{is_fill_done, is_sensor_done, is_silent, is_take_fill, trace_of}
use Rattle.run_model.specs.Jobs.{IsJobOut, IsOutWith, is_filled_in, is_sensor_done_in, is_taken_in}
use Rattle.run_model.specs.Run.{IsRun}
use Rattle.basic_lemmas.proofs.Tests.{given-where}
use Rattle.run_model.proofs.Legal.{runs_legally}
use Rattle.trace_laws.proofs.Shutters.{exposed}
use Rattle.run_model.specs.RunMoves.{by_entry}
use Rattle.run_model.proofs.Unsent.{take-parts, take-ready}
use Rattle.fill_jobs.specs.Held.{IsWith, fill_job_in, frames_differ, held_at, is_of_stream, sensor_job_in}
use Rattle.service_parts.specs.Outs.{AreOut, Takes, TakesWith, moves_a_job}
use Rattle.service_parts.proofs.Held.{differ-with, differ-without, held-frame, held-other, held-own}
use Rattle.service_parts.proofs.Kept.{GivesNone, TakesNone, kept, was}
use Rattle.service_parts.proofs.One.{inside, one-job}
use Rattle.service_parts.proofs.JobShapes.{dark-move, silent-none}

-- ---- at first

none-out : (script : Script) (job : JobView) → IsJobOut script [] job → ⊥
none-out script job is = by job.fill is
  where
    by : (o : Option FillTarget) → IsOutWith script [] job o → ⊥
    by None is = false≢true is.out
    by (Some target) is = false≢true is.out

pub none_at_first : (script : Script) → AreOut script [] []
none_at_first script = record { once = refl; held = λ n job at. absurd (cc); all = λ job is. absurd (none-out script job is) }

-- ---- moves that touch no job

idle-gives : (step : StepName) (n : ℕ) → moves_a_job step ≡ false → (is_sensor_done n step ≡ false) × ((s : ℕ) → is_fill_done n s step ≡ false)
idle-gives (SensorDone k) n idle = absurd (false≢true (sym idle))
idle-gives (FillDone k t) n idle = absurd (false≢true (sym idle))
idle-gives _ n idle = (refl, λ s. refl)

idle-takes : (step : StepName) (n : ℕ) → moves_a_job step ≡ false → (s : ℕ) → is_take_fill n s step ≡ false
idle-takes (TakeFill k t) n idle s = absurd (false≢true (sym idle))
idle-takes _ n idle s = refl

pub others_leave : (script : Script) (m : Move) (h : List Move) (jobs : List JobView) → IsRun script (m ∷ h) → moves_a_job m.step ≡ false → AreOut script h jobs → AreOut script (m ∷ h) jobs
others_leave script m h jobs run idle out = record {
  once = out.once;
  held = λ n job at. (let gives = idle-gives m.step job.frame.0 idle in kept script m h job run (record { sensor = gives.0; fill = gives.1 }) (out.held n job at));
  all = λ job is. out.all job (was script m h job run (record { sensor = dark-move script h m.step m run.0 idle job.frame.0; fill = idle-takes m.step job.frame.0 idle }) is);
}

-- ---- a move that takes a job out

-- a step that gives a job back adds no entry
sensor-silent : (n : ℕ) (step : StepName) → is_sensor_done n step ≡ true → is_silent step ≡ true
sensor-silent n (SensorDone k) is = refl
sensor-silent n _ is = absurd (false≢true is)

fill-silent : (n s : ℕ) (step : StepName) → is_fill_done n s step ≡ true → is_silent step ≡ true
fill-silent n s (FillDone k t) is = refl
fill-silent n s _ is = absurd (false≢true is)

take-silent : (n s : ℕ) (step : StepName) → is_take_fill n s step ≡ true → is_silent step ≡ true
take-silent n s (TakeFill k t) is = refl
take-silent n s _ is = absurd (false≢true is)

loud : (script : Script) (m : Move) (h : List Move) (e : Entry) (b : Bool) → IsRun script (m ∷ h) → m.entry ≡ Some e → (b ≡ true → is_silent m.step ≡ true) → b ≡ false
loud script m h e false run at each = refl
loud script m h e true run at each = let none = silent-none script h m.step m run.0 (each refl) in absurd (cc)

takes-gives-none : (script : Script) (m : Move) (h : List Move) (job : JobView) (n : ℕ) → IsRun script (m ∷ h) → Takes m job → GivesNone m n
takes-gives-none script m h job n run takes = by job.fill takes
  where
    by : (o : Option FillTarget) → TakesWith m job o → GivesNone m n
    by None takes = record {
      sensor = loud script m h (ShutterEntry job.frame takes.0) (is_sensor_done n m.step) run takes.1 (sensor-silent n m.step);
      fill = λ s. loud script m h (ShutterEntry job.frame takes.0) (is_fill_done n s m.step) run takes.1 (fill-silent n s m.step);
    }
    by (Some target) takes = record { sensor = rw takes refl; fill = λ s. rw takes refl }

-- it takes none of another frame
takes-one : (script : Script) (m : Move) (h : List Move) (job : JobView) (n : ℕ) → IsRun script (m ∷ h) → Takes m job → (job.frame.0 == n) ≡ false → TakesNone m n
takes-one script m h job n run takes other = by job.fill takes
  where
    by : (o : Option FillTarget) → TakesWith m job o → TakesNone m n
    by None takes = record {
      sensor = ap (λ (o : Option Entry). by_entry (is_shutter n) o) takes.1 ∙ other;
      fill = λ s. loud script m h (ShutterEntry job.frame takes.0) (is_take_fill n s m.step) run takes.1 (take-silent n s m.step);
    }
    by (Some target) takes = record {
      sensor = (let none = silent-none script h m.step m run.0 (ap is_silent takes) in ap (λ (o : Option Entry). by_entry (is_shutter n) o) none);
      fill = λ s. ap (λ (step : StepName). is_take_fill n s step) takes ∙ ap (λ b. b && (target.stream.0 == s)) other;
    }

-- the job wasn't out before
not-before : (script : Script) (m : Move) (h : List Move) (job : JobView) → IsRun script (m ∷ h) → Takes m job → IsJobOut script h job → ⊥
not-before script m h job run takes is = by job.fill takes is
  where
    by : (o : Option FillTarget) → TakesWith m job o → IsOutWith script h job o → ⊥
    by None takes is =
        let past = trace_of h in
        let legal = runs_legally script (m ∷ h) run in
        let now : IsLegal script (ShutterEntry job.frame takes.0 ∷ past) = rw (takes.1) at legal in
        let dark = (exposed script past job.frame takes.0 now.0).1 in
        false≢true (sym dark ∙ (and_parts (has_shutter job.frame.0 past) (not (is_sensor_done_in h job.frame.0)) is.out).0)
    by (Some target) takes is =
        let n = job.frame.0 in
        let s = target.stream.0 in
        let here : is_take_fill n s m.step ≡ true = rw (takes, eq-eqb n n refl, eq-eqb s s refl) refl in
        let fresh = (take-parts script h n s (take-ready script h m.step m n s run.0 here)).fresh in
        false≢true (ap not (sym (and_parts (is_taken_in h n s) (not (is_filled_in h n s)) is.out).0) ∙ fresh)

none-by : (script : Script) (m : Move) (h : List Move) (jobs : List JobView) (job : JobView) (o : Option JobView) → IsRun script (m ∷ h) → AreOut script h jobs → Takes m job → IsJobOut script (m ∷ h) job → held_at job.frame.0 jobs ≡ o → o ≡ None
none-by script m h jobs job None run out takes is at = refl
none-by script m h jobs job (Some old) run out takes is at =
    let frame = held-frame job.frame.0 jobs old at in
    let before = out.held job.frame.0 old at in
    let still = kept script m h old run (takes-gives-none script m h job old.frame.0 run takes) before in
    let same : old ≡ job = one-job script (m ∷ h) old job run still is frame in
    absurd (not-before script m h job run takes (rw same at before))

-- its frame had none
pub none_before : (script : Script) (m : Move) (h : List Move) (jobs : List JobView) (job : JobView) → IsRun script (m ∷ h) → AreOut script h jobs → Takes m job → IsJobOut script (m ∷ h) job → held_at job.frame.0 jobs ≡ None
none_before script m h jobs job run out takes is = none-by script m h jobs job (held_at job.frame.0 jobs) run out takes is refl

pub takes_out : (script : Script) (m : Move) (h : List Move) (jobs new : List JobView) (job : JobView) → IsRun script (m ∷ h) → AreOut script h jobs → Takes m job → IsJobOut script (m ∷ h) job → IsWith job jobs new → AreOut script (m ∷ h) new
takes_out script m h jobs new job run out takes is with_ =
    let before = with_.before in
    let after = with_.after in
    let free : held_at job.frame.0 (before ++ after) ≡ None = ap (λ (js : List JobView). held_at job.frame.0 js) (sym with_.old_is) ∙ none_before script m h jobs job run out takes is in
    let own = held-own job.frame.0 job before after (eq-eqb job.frame.0 job.frame.0 refl) free in
    let once : frames_differ (before ++ after) ≡ true = ap frames_differ (sym with_.old_is) ∙ out.once in
    rw (with_.new_is) (record {
      once = differ-with job before after once free;
      held = λ n x at. elim (cases_Bool (job.frame.0 == n)) [
        | inl here ↦ (
            let at' : held_at job.frame.0 (before ++ job ∷ after) ≡ Some x = ap (λ (k : ℕ). held_at k (before ++ job ∷ after)) (eqb-true job.frame.0 n here) ∙ at in
            let same : job ≡ x = inside job x (sym own ∙ at') in
            rw (same) at is
            )
        | inr other ↦ (
            let at' : held_at n jobs ≡ Some x = ap (λ (js : List JobView). held_at n js) with_.old_is ∙ (sym (held-other n job before after other) ∙ at) in
            kept script m h x run (takes-gives-none script m h job x.frame.0 run takes) (out.held n x at')
            )
      ];
      all = λ x now. elim (cases_Bool (job.frame.0 == x.frame.0)) [
        | inl here ↦ (
            let frame : job.frame.0 ≡ x.frame.0 = eqb-true job.frame.0 x.frame.0 here in
            let same : job ≡ x = one-job script (m ∷ h) job x run is now frame in
            ap (λ (k : ℕ). held_at k (before ++ job ∷ after)) (sym frame) ∙ (own ∙ ap Some same)
            )
        | inr other ↦ (
            let before' = was script m h x run (takes-one script m h job x.frame.0 run takes other) now in
            held-other x.frame.0 job before after other ∙ (ap (λ (js : List JobView). held_at x.frame.0 js) (sym with_.old_is) ∙ out.all x before')
            )
      ];
    })

-- ---- a move that gives a job back

-- which job the step gives back
abbrev pub GivesWith : StepName → JobView → Option FillTarget → Type 0
GivesWith step job None = step ≡ SensorDone job.frame
GivesWith step job (Some target) = step ≡ FillDone job.frame target.stream

gives-silent : (step : StepName) (job : JobView) (o : Option FillTarget) → GivesWith step job o → (is_silent step ≡ true) × ((n s : ℕ) → is_take_fill n s step ≡ false)
gives-silent step job None gives = (ap is_silent gives, λ n s. ap (λ (t : StepName). is_take_fill n s t) gives)
gives-silent step job (Some target) gives = (ap is_silent gives, λ n s. ap (λ (t : StepName). is_take_fill n s t) gives)

gives-takes-none : (script : Script) (m : Move) (h : List Move) (job : JobView) (n : ℕ) → IsRun script (m ∷ h) → GivesWith m.step job job.fill → TakesNone m n
gives-takes-none script m h job n run gives =
    let quiet = gives-silent m.step job job.fill gives in
    let none = silent-none script h m.step m run.0 quiet.0 in
    record { sensor = ap (λ (o : Option Entry). by_entry (is_shutter n) o) none; fill = λ s. quiet.1 n s }

-- it gives none of another frame back
gives-one : (m : Move) (job : JobView) (n : ℕ) (o : Option FillTarget) → GivesWith m.step job o → (job.frame.0 == n) ≡ false → GivesNone m n
gives-one m job n None gives other = record {
  sensor = ap (λ (t : StepName). is_sensor_done n t) gives ∙ other;
  fill = λ s. ap (λ (t : StepName). is_fill_done n s t) gives;
}
gives-one m job n (Some target) gives other = record {
  sensor = ap (λ (t : StepName). is_sensor_done n t) gives;
  fill = λ s. ap (λ (t : StepName). is_fill_done n s t) gives ∙ ap (λ b. b && (target.stream.0 == s)) other;
}

-- the job isn't out after it
not-after : (script : Script) (m : Move) (h : List Move) (job : JobView) (o : Option FillTarget) → GivesWith m.step job o → IsOutWith script (m ∷ h) job o → ⊥
not-after script m h job None gives is =
    let n = job.frame.0 in
    let done : is_sensor_done n m.step ≡ true = ap (λ (t : StepName). is_sensor_done n t) gives ∙ eq-eqb n n refl in
    let undone = (and_parts (has_shutter n (trace_of (m ∷ h))) (not (is_sensor_done_in (m ∷ h) n)) is.out).1 in
    absurd (let no' = rw done at undone in false≢true no')
not-after script m h job (Some target) gives is =
    let n = job.frame.0 in
    let s = target.stream.0 in
    let done : is_fill_done n s m.step ≡ true = ap (λ (t : StepName). is_fill_done n s t) gives ∙ rw (eq-eqb n n refl, eq-eqb s s refl) refl in
    let unfilled = (and_parts (is_taken_in (m ∷ h) n s) (not (is_filled_in (m ∷ h) n s)) is.out).1 in
    absurd (let no' = rw done at unfilled in false≢true no')

pub gives-back : (script : Script) (m : Move) (h : List Move) (jobs new : List JobView) (job : JobView) → IsRun script (m ∷ h) → AreOut script h jobs → GivesWith m.step job job.fill → IsWith job new jobs → AreOut script (m ∷ h) new
gives-back script m h jobs new job run out gives with_ =
    let before = with_.before in
    let after = with_.after in
    let once : frames_differ (before ++ job ∷ after) ≡ true = ap frames_differ (sym with_.new_is) ∙ out.once in
    let left = differ-without job before after once in
    let own : held_at job.frame.0 jobs ≡ Some job = ap (λ (js : List JobView). held_at job.frame.0 js) with_.new_is ∙ held-own job.frame.0 job before after (eq-eqb job.frame.0 job.frame.0 refl) left.1 in
    let is = out.held job.frame.0 job own in
    rw (with_.old_is) (record {
      once = left.0;
      held = λ n x at. elim (cases_Bool (job.frame.0 == n)) [
        | inl here ↦ absurd (let at' : held_at n (before ++ after) ≡ None = ap (λ (k : ℕ). held_at k (before ++ after)) (sym (eqb-true job.frame.0 n here)) ∙ left.1 in cc)
        | inr other ↦ (
            let at' : held_at n jobs ≡ Some x = ap (λ (js : List JobView). held_at n js) with_.new_is ∙ (held-other n job before after other ∙ at) in
            let frame = held-frame n jobs x at' in
            let other' : (job.frame.0 == x.frame.0) ≡ false = ap (λ (k : ℕ). job.frame.0 == k) frame ∙ other in
            kept script m h x run (gives-one m job x.frame.0 job.fill gives other') (out.held n x at')
            )
      ];
      all = λ x now.
          let was' = was script m h x run (gives-takes-none script m h job x.frame.0 run gives) now in
          elim (cases_Bool (job.frame.0 == x.frame.0)) [
            | inl here ↦ absurd (
                let same : x ≡ job = one-job script h x job run.1 was' is (sym (eqb-true job.frame.0 x.frame.0 here)) in
                let now' : IsJobOut script (m ∷ h) job = rw (same) at now in
                not-after script m h job job.fill gives now'
                )
            | inr other ↦ sym (held-other x.frame.0 job before after other) ∙ (ap (λ (js : List JobView). held_at x.frame.0 js) (sym with_.new_is) ∙ out.all x was')
          ];
    })

-- ---- by what the step names

sensor-found : (o : Option JobView) (job : JobView) → sensor_job_in o ≡ Some job → (o ≡ Some job) × (job.fill ≡ None)
sensor-found None job h = absurd (cc)
sensor-found (Some x) job h =
    let both = given-where (is_none x.fill) x job h in
    (ap Some both.1, ap (λ (j : JobView). j.fill) (sym both.1) ∙ none x.fill both.0)
  where
    none : (o : Option FillTarget) → is_none o ≡ true → o ≡ None
    none None h = refl
    none (Some t) h = absurd (false≢true h)

pub sensor_gives : (script : Script) (m : Move) (h : List Move) (jobs new : List JobView) (job : JobView) (n : FrameNo) → IsRun script (m ∷ h) → AreOut script h jobs → m.step ≡ SensorDone n → sensor_job_in (held_at n.0 jobs) ≡ Some job → IsWith job new jobs → AreOut script (m ∷ h) new
sensor_gives script m h jobs new job n run out step found with_ =
    let both = sensor-found (held_at n.0 jobs) job found in
    let frame = held-frame n.0 jobs job both.0 in
    let gives : GivesWith m.step job None = step ∙ ap (λ (k : ℕ). SensorDone (record { 0 = k })) (sym frame) in
    gives-back script m h jobs new job run out (rw (both.1) gives) with_

pub fill-found : (s : ℕ) (o : Option JobView) (job : JobView) → fill_job_in s o ≡ Some job → (o ≡ Some job) × (is_of_stream s job.fill ≡ true)
fill-found s None job h = absurd (cc)
fill-found s (Some x) job h =
    let both = given-where (is_of_stream s x.fill) x job h in
    (ap Some both.1, ap (λ (j : JobView). is_of_stream s j.fill) (sym both.1) ∙ both.0)

stream-given : (step : StepName) (job : JobView) (n : FrameNo) (s : StreamIx) (o : Option FillTarget) → step ≡ FillDone n s → job.frame.0 ≡ n.0 → is_of_stream s.0 o ≡ true → GivesWith step job o
stream-given step job n s None at frame is = absurd (false≢true is)
stream-given step job n s (Some target) at frame is =
    at ∙ (ap (λ (k : ℕ). FillDone (record { 0 = k }) s) (sym frame) ∙ ap (λ (k : ℕ). FillDone job.frame (record { 0 = k })) (sym (eqb-true target.stream.0 s.0 is)))

pub fill_gives : (script : Script) (m : Move) (h : List Move) (jobs new : List JobView) (job : JobView) (n : FrameNo) (s : StreamIx) → IsRun script (m ∷ h) → AreOut script h jobs → m.step ≡ FillDone n s → fill_job_in s.0 (held_at n.0 jobs) ≡ Some job → IsWith job new jobs → AreOut script (m ∷ h) new
fill_gives script m h jobs new job n s run out step found with_ =
    let both = fill-found s.0 (held_at n.0 jobs) job found in
    let frame = held-frame n.0 jobs job both.0 in
    gives-back script m h jobs new job run out (stream-given m.step job n s job.fill step frame both.1) with_
