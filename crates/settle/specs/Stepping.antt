use Rattle.std.specs.Prelude.{◌≡◌, ℕ, ◌%◌, Bool, true, false, List, [], ◌∷◌, ◌++◌, Option, Some, length, slice_get, IsTrue}
use Rattle.std.specs.List.{list_all}
use Rattle.cam_types.specs.declared.job.JobView.{JobView}
use Rattle.cam_types.specs.declared.script.Script.{Script}
use Rattle.trace_model.specs.Complete.{IsComplete}
use Rattle.run_model.specs.declared.step.Move.{Move}
use Rattle.run_model.specs.declared.step.StepName.{StepName}
use Rattle.run_model.specs.declared.step.StepName.TheVariants.{FillDone, SensorDone}
use Rattle.run_model.specs.History.{trace_of}
use Rattle.run_model.specs.Played.{candidates, move_at}
use Rattle.run_model.specs.State.{State}
use Rattle.service_parts.specs.Outs.{AreOut}
use Rattle.service_core.specs.Answers.{Makes}
use Rattle.settle.specs.declared.stepping.Stepped.{Stepped}
use Rattle.settle.specs.declared.stepping.Stepped.TheVariants.{Done, Finished}

-- What a player makes of a service, whose jobs it has in hand.

-- the hands hold just the jobs that are out
abbrev pub HoldsJobs : State → List JobView → Type 0
HoldsJobs s jobs = AreOut s.script s.history jobs

-- the step was ready, and is made: nothing else is changed
pub record MakesStep (old new : State) (step : StepName) : Type 0 where
  pub move : Move
  pub of : move.step ≡ step
  pub made : Makes move old new

-- the step that a pick chooses among those that are ready
abbrev pub picked : State → ℕ → Option StepName
picked s pick = let ready = candidates s.script s.history in slice_get ready (pick % length ready)

pub record MakesPicked (old new : State) (pick : ℕ) (step : StepName) : Type 0 where
  pub going : ¬ IsComplete old.script (trace_of old.history)
  pub picked : picked old pick ≡ Some step
  pub made : MakesStep old new step

pub record IsFinished (old new : State) : Type 0 where
  pub complete : IsComplete old.script (trace_of old.history)
  pub same : new ≡ old

-- the chosen step is made; or the run is complete, and nothing changes
abbrev pub AnswersPick : State → ℕ → Stepped → State → Type 0
AnswersPick old pick (Done step) new = MakesPicked old new pick step
AnswersPick old pick Finished new = IsFinished old new

-- the step gives a job back
abbrev pub ends_a_job : StepName → Bool
ends_a_job (SensorDone _) = true
ends_a_job (FillDone _ _) = true
ends_a_job _ = false

-- a step that gives a job back was ready, and is made: nothing else is changed
pub record EndsJob (old new : State) : Type 0 where
  pub step : StepName
  pub ends : IsTrue (ends_a_job step)
  pub made : MakesStep old new step

-- jobs were given back, and nothing else was done
pub record IsFinishedBy (old new : State) : Type 0 where
  pub moves : List Move
  pub ends : IsTrue (list_all (λ move. ends_a_job move.step) moves)
  pub left : new ≡ record { script = old.script; history = moves ++ old.history }

-- each of these moves is that of the first candidate behind those before it, which left the run incomplete
abbrev pub AreFirst : Script → List Move → List Move → Type 0
AreFirst script [] h = Unit {0}
AreFirst script (m ∷ moves) h =
    (¬ IsComplete script (trace_of (moves ++ h)))
    × (move_at script (moves ++ h) (slice_get (candidates script (moves ++ h)) 0) ≡ Some m)
    × AreFirst script moves h

-- so many steps more were made, each the first candidate, and the run is complete
pub record IsSettledBy (old new : State) (count : ℕ) : Type 0 where
  pub moves : List Move
  pub many : length moves ≡ count
  pub left : new ≡ record { script = old.script; history = moves ++ old.history }
  pub first : AreFirst old.script moves old.history
  pub complete : IsComplete new.script (trace_of new.history)
