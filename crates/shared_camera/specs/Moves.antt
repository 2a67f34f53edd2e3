-- What a turn makes of the service that it has: one move, or none.
use Rattle.std.specs.Prelude.{◌≡◌, Bool, true, false, not, List, Option, Some, None}
use Rattle.std.specs.List.{list_all}
use Rattle.cam_types.specs.declared.job.JobView.{JobView}
use Rattle.trace_model.specs.declared.entry.Entry.{Entry}
use Rattle.run_model.specs.declared.step.Kind.{Kind}
use Rattle.run_model.specs.declared.step.Kind.TheVariants as kind
use Rattle.run_model.specs.declared.step.Move.{Move}
use Rattle.run_model.specs.Jobs.{IsJobOut}
use Rattle.run_model.specs.Played.{candidates}
use Rattle.service_parts.specs.Outs.{Takes}
use Rattle.run_model.specs.State.{State}
use Rattle.service_core.specs.Kinds.{first_of}
use Rattle.service_core.specs.Answers.{Makes}
use Rattle.service_core.specs.declared.sensor.Shuttered.{Shuttered}
use Rattle.service_core.specs.declared.sensor.Shuttered.TheVariants.{Began, NotBegun}
use Rattle.service_core.specs.declared.step.Step.{Step}
use Rattle.service_core.specs.declared.step.Step.TheVariants.{Did, NotReady}
use Rattle.shared_camera.specs.Choices.{Choice}
use Rattle.shared_camera.specs.Turns.{Gives}

-- steps of the kind take a job out, or give one back
abbrev pub is_of_jobs : Kind → Bool
is_of_jobs kind.Shutter = true
is_of_jobs kind.SensorDone = true
is_of_jobs kind.TakeFill = true
is_of_jobs kind.FillDone = true
is_of_jobs _ = false

-- none of the kinds does
abbrev pub are_alone : List Kind → Bool
are_alone kinds = list_all (λ k. not (is_of_jobs k)) kinds

-- the chosen step is made
pub record MakesChosen (choice : Choice) (m : Move) (old new : State) : Type 0 where
  pub made : Makes m old new
  pub chosen : choice (candidates old.script old.history) ≡ Some m.step

-- no such step is ready, and nothing is changed
pub record Waits (choice : Choice) (old new : State) : Type 0 where
  pub none : choice (candidates old.script old.history) ≡ None
  pub same : new ≡ old

-- it added this entry
pub record Adds (choice : Choice) (e : Entry) (old new : State) : Type 0 where
  pub move : Move
  pub entry : move.entry ≡ Some e
  pub chosen : MakesChosen choice move old new

abbrev pub AnswersChoice : Choice → State → Step → State → Type 0
AnswersChoice choice old (Did e) new = Adds choice e old new
AnswersChoice choice old NotReady new = Waits choice old new

-- it took this job out
pub record Lends (m : Move) (job : JobView) (new : State) : Type 0 where
  pub takes : Takes m job
  pub out : IsJobOut new.script new.history job

pub record Shoots (e : Entry) (job : JobView) (old new : State) : Type 0 where
  pub move : Move
  pub entry : move.entry ≡ Some e
  pub chosen : MakesChosen (first_of kind.Shutter) move old new
  pub lends : Lends move job new
  pub exposure : job.fill ≡ None

abbrev pub AnswersExposure : State → Shuttered → State → Type 0
AnswersExposure old (Began e job) new = Shoots e job old new
AnswersExposure old NotBegun new = Waits (first_of kind.Shutter) old new

pub record Fills (job : JobView) (old new : State) : Type 0 where
  pub move : Move
  pub chosen : MakesChosen (first_of kind.TakeFill) move old new
  pub lends : Lends move job new

abbrev pub AnswersFilling : State → Option JobView → State → Type 0
AnswersFilling old (Some job) new = Fills job old new
AnswersFilling old None new = Waits (first_of kind.TakeFill) old new

-- the job came back
pub record Returns (job : JobView) (old new : State) : Type 0 where
  pub move : Move
  pub gives : Gives move job
  pub made : Makes move old new
