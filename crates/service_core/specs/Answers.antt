use Rattle.std.specs.Prelude.{◌≡◌, ℕ, List, [], ◌∷◌, Option, Some, None, IsFalse}
use Rattle.cam_types.specs.declared.script.Script.{Script}
use Rattle.trace_model.specs.declared.entry.Entry.{Entry}
use Rattle.run_model.specs.declared.step.Move.{Move}
use Rattle.run_model.specs.declared.step.StepName.{StepName}
use Rattle.run_model.specs.Jobs.{is_fill_out, is_sensor_out}
use Rattle.run_model.specs.Ready.{move_of}
use Rattle.run_model.specs.State.{State}
use Rattle.service_parts.specs.Parts.{parts}
use Rattle.service_state.specs.Serving.{Serving}
use Rattle.service_core.specs.declared.step.Step.{Step}
use Rattle.service_core.specs.declared.step.Step.TheVariants.{Did, NotReady}

-- What a step answers, and what it leaves, by the definitions over the past.

-- before the first move
abbrev pub opened : Script → State
opened script = record { script = script; history = [] }

-- the service with one more move
abbrev pub after : Move → State → State
after m s = record { script = s.script; history = m ∷ s.history }

-- the script, and the parts that the history leaves
abbrev pub serving : State → Serving
serving s = record { script = s.script; parts = parts s.script s.history }

-- the move of a step that adds this entry, and that of a step that adds none
abbrev pub adds : StepName → Entry → Move
adds step e = record { step = step; entry = Some e }

abbrev pub silent : StepName → Move
silent step = record { step = step; entry = None }

-- the move was ready, and is made: nothing else is changed
pub record Makes (m : Move) (old new : State) : Type 0 where
  pub ready : move_of old.script old.history m.step ≡ Some m
  pub left : new ≡ after m old

-- the step wasn't ready, and nothing is changed
pub record Stays (step : StepName) (old new : State) : Type 0 where
  pub unready : move_of old.script old.history step ≡ None
  pub same : new ≡ old

-- the step's move is made, and its entry is the answer; or the step isn't ready
abbrev pub AnswersStep : StepName → State → Step → State → Type 0
AnswersStep step old (Did e) new = Makes (adds step e) old new
AnswersStep step old NotReady new = Stays step old new

-- the answer of a step that adds an entry where it is made
abbrev pub step_of : Option Entry → Step
step_of (Some e) = Did e
step_of None = NotReady

-- no job is out: the sensor has no frame, and no stage a buffer
pub record IsNoJobOut (h : List Move) : Type 0 where
  pub sensor : (n : ℕ) → IsFalse (is_sensor_out h n)
  pub stages : (n s : ℕ) → IsFalse (is_fill_out h n s)
