-- What the service answers, and the move that a turn makes of it.
use Rattle.std.proofs.Common.{◌≡◌, ℕ, List, Option, Some, None, IfSome, option_map, refl, sym, ap, ◌∙◌, subst}
use Rattle.cam_types.specs.declared.job.FillTarget.{FillTarget}
use Rattle.cam_types.specs.declared.job.JobView.{JobView}
use Rattle.cam_types.specs.declared.number.FrameNo.{FrameNo}
use Rattle.cam_types.specs.declared.number.StreamIx.{StreamIx}
use Rattle.run_model.specs.declared.step.Kind.{Kind}
use Rattle.run_model.specs.declared.step.Kind.TheVariants as kind
use Rattle.run_model.specs.declared.step.Move.{Move}
use Rattle.run_model.specs.declared.step.StepName.{StepName}
use Rattle.run_model.specs.declared.step.StepName.TheVariants.{Shutter, TakeFill}
use Rattle.run_model.specs.Played.{candidates}
use Rattle.run_model.specs.State.{State}
use Rattle.service_parts.specs.Outs.{Takes, TakesWith}
use Rattle.service_core.specs.Kinds.{first_of}
use Rattle.service_core.specs.Answers.{AnswersStep, adds, silent}
use Rattle.service_core.specs.Jobs.{AnswersShutter, AnswersTake}
use Rattle.service_core.specs.declared.sensor.Shuttered.{Shuttered}
use Rattle.service_core.specs.declared.sensor.Shuttered.TheVariants.{Began, NotBegun}
use Rattle.service_core.specs.declared.step.Step.{Step}
use Rattle.service_core.specs.declared.step.Step.TheVariants.{Did, NotReady}
use Rattle.shared_camera.specs.Moves.{AnswersChoice, AnswersExposure, AnswersFilling}
use Rattle.shared_camera.specs.Choices.{first_of_kinds}
use Rattle.shared_camera.proofs.Firsts.{chosen-moves, first-moves, first-of-kind, is-shutter}

-- the first ready step of the kind
abbrev pub IsFirst : Kind → State → StepName → Type 0
IsFirst k s step = first_of k (candidates s.script s.history) ≡ Some step

pub choice-made : (kinds : List Kind) (step : StepName) (old new : State) (answer : Step) → first_of_kinds kinds (candidates old.script old.history) ≡ Some step → AnswersStep step old answer new → AnswersChoice (first_of_kinds kinds) old answer new
choice-made kinds step old new (Did e) chosen told = record { move = adds step e; entry = refl; chosen = record { made = told; chosen = chosen } }
choice-made kinds step old new NotReady chosen told = absurd (chosen-moves old.script old.history kinds step chosen told.unready)

-- ---- an exposure

pub exposure-made : (step : StepName) (old new : State) (answer : Shuttered) → IsFirst kind.Shutter old step → AnswersShutter old answer new → AnswersExposure old answer new
exposure-made step old new answer first told =
    let same : step ≡ Shutter = is-shutter step (first-of-kind old.script old.history kind.Shutter step first) in
    by answer (first ∙ ap (λ (s : StepName). Some s) same) told
  where
    by : (answer : Shuttered) → IsFirst kind.Shutter old Shutter → AnswersShutter old answer new → AnswersExposure old answer new
    by (Began e job) first told = record {
      move = adds Shutter e;
      entry = refl;
      chosen = record { made = told.made; chosen = first };
      lends = record { takes = subst (λ (o : Option FillTarget). TakesWith (adds Shutter e) job o) (sym told.exposure) (told.time, ap Some told.shutter); out = told.out };
      exposure = told.exposure;
    }
    by NotBegun first told = absurd (first-moves old.script old.history kind.Shutter Shutter first told.unready)

-- ---- a fill

takes-with : (m : Move) (job : JobView) (s : StreamIx) (o : Option FillTarget) → m.step ≡ TakeFill job.frame s → option_map (λ t. t.stream) o ≡ Some s → TakesWith m job o
takes-with m job s (Some t) own is = let same : t.stream ≡ s = cc in own ∙ ap (λ (r : StreamIx). TakeFill job.frame r) (sym same)
takes-with m job s None own is = absurd (cc)

pub filling-made : (n : FrameNo) (s : StreamIx) (old new : State) (answer : Option JobView) → IsFirst kind.TakeFill old (TakeFill n s) → AnswersTake n s old answer new → AnswersFilling old answer new
filling-made n s old new (Some job) first told = record {
  move = silent (TakeFill n s);
  chosen = record { made = told.made; chosen = first };
  lends = record { takes = takes-with (silent (TakeFill n s)) job s job.fill (ap (λ (k : FrameNo). TakeFill k s) (sym told.frame)) told.stream; out = told.out };
}
filling-made n s old new None first told = absurd (first-moves old.script old.history kind.TakeFill (TakeFill n s) first told.unready)

-- ---- a job that comes back
