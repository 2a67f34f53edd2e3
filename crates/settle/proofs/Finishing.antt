-- Jobs that are given back one by one.
use Rattle.std.proofs.Common.{◌≡◌, true, List, [], ◌∷◌, Option, Some, None, refl, sym, ap, ◌∙◌, slice_get, subst}
use Rattle.std.specs.Option.{option_map}
use Rattle.cam_types.specs.declared.job.FillTarget.{FillTarget}
use Rattle.cam_types.specs.declared.job.JobView.{JobView}
use Rattle.cam_types.specs.declared.number.StreamIx.{StreamIx}
use Rattle.cam_types.specs.declared.script.Script.{Script}
use Rattle.fill_jobs.specs.Held.{held_at, name_of}
use Rattle.fill_jobs.specs.declared.name.JobName.{JobName}
use Rattle.service_parts.specs.Outs.{AreOut}
use Rattle.run_model.specs.declared.step.Move.{Move}
use Rattle.run_model.specs.declared.step.StepName.TheVariants.{FillDone, SensorDone}
use Rattle.run_model.specs.Jobs.{IsJobOut, IsOutWith, is_fill_out, is_sensor_out}
use Rattle.run_model.specs.Ready.{is_ready}
use Rattle.run_model.specs.State.{State}
use Rattle.service_core.specs.Answers.{after}
use Rattle.settle.specs.Stepping.{EndsJob, IsFinishedBy, ends_a_job}

pub none_ended : (old : State) → IsFinishedBy old old
none_ended old = record { moves = []; ends = refl; left = refl }

pub one_ended : (old now new : State) → IsFinishedBy old now → EndsJob now new → IsFinishedBy old new
one_ended old now new finished ended =
    let m = ended.made.move in
    let ends : ends_a_job m.step ≡ true = subst (λ step. ends_a_job step ≡ true) (sym ended.made.of) ended.ends in
    record {
      moves = m ∷ finished.moves;
      ends = rw ends finished.ends;
      left = ended.made.made.left ∙ ap (after m) finished.left;
    }

-- ---- the first job

-- a job with the name is out
pub record IsFirstOut (script : Script) (h : List Move) (name : JobName) : Type 0 where
  pub job : JobView
  pub out : IsJobOut script h job
  pub named : name_of job ≡ name

pub first_out : (script : Script) (h : List Move) (jobs : List JobView) (name : JobName) → ((job : JobView) (jobs : List JobView) → slice_get jobs 0 ≡ Some job → held_at job.frame.0 jobs ≡ Some job) → AreOut script h jobs → option_map name_of (slice_get jobs 0) ≡ Some name → IsFirstOut script h name
first_out script h [] name law out first = absurd (cc)
first_out script h (job ∷ jobs) name law out first =
    record { job = job; out = out.held job.frame.0 job (law job (job ∷ jobs) refl); named = cc }

exposure-out : (script : Script) (h : List Move) (job : JobView) (o : Option FillTarget) → IsOutWith script h job o → option_map (λ target. target.stream) o ≡ None → is_sensor_out h job.frame.0 ≡ true
exposure-out script h job None out named = out.out
exposure-out script h job (Some target) out named = absurd (cc)

fill-out : (script : Script) (h : List Move) (job : JobView) (o : Option FillTarget) (stream : StreamIx) → IsOutWith script h job o → option_map (λ target. target.stream) o ≡ Some stream → is_fill_out h job.frame.0 stream.0 ≡ true
fill-out script h job None stream out named = absurd (cc)
fill-out script h job (Some target) stream out named = let same : target.stream ≡ stream = cc in rw same at out.out

pub exposure_ready : (script : Script) (h : List Move) (name : JobName) → IsFirstOut script h name → name.stream ≡ None → is_ready script h (SensorDone name.frame) ≡ true
exposure_ready script h name first none =
    let frame : first.job.frame ≡ name.frame = ap (λ (n : JobName). n.frame) first.named in
    let stream = ap (λ (n : JobName). n.stream) first.named ∙ none in
    let out : is_sensor_out h name.frame.0 ≡ true = rw frame at (exposure-out script h first.job first.job.fill first.out stream) in
    rw out refl

pub fill_ready : (script : Script) (h : List Move) (name : JobName) (stream : StreamIx) → IsFirstOut script h name → name.stream ≡ Some stream → is_ready script h (FillDone name.frame stream) ≡ true
fill_ready script h name stream first some =
    let frame : first.job.frame ≡ name.frame = ap (λ (n : JobName). n.frame) first.named in
    let is = ap (λ (n : JobName). n.stream) first.named ∙ some in
    let out : is_fill_out h name.frame.0 stream.0 ≡ true = rw frame at (fill-out script h first.job first.job.fill stream first.out is) in
    rw out refl

-- no job is the first of no jobs alone
pub none_left : (jobs : List JobView) → option_map name_of (slice_get jobs 0) ≡ None → jobs ≡ []
none_left [] none = refl
none_left (job ∷ jobs) none = absurd (cc)
