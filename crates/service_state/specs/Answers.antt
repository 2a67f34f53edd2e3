use Rattle.std.specs.Prelude.{◌≡◌, Bool, true, false, Option, Some, None}
use Rattle.trace_model.specs.declared.entry.Entry.{Entry}
use Rattle.run_model.specs.declared.step.Move.{Move}
use Rattle.run_model.specs.declared.step.StepName.{StepName}
use Rattle.service_parts.specs.After.{parts_after}
use Rattle.service_parts.specs.Moves.{move_by}
use Rattle.service_state.specs.Serving.{Serving}

-- What a step answers, and what it leaves.

abbrev pub move_with : StepName → Option Entry → Move
move_with step entry = record { step = step; entry = entry }

abbrev pub after_move : Move → Serving → Serving
after_move m s = record { script = s.script; parts = parts_after s.script m s.parts }

-- the step was ready and made this move: nothing but what the move changes is changed
pub record Makes (old new : Serving) (m : Move) : Type 0 where
  pub ready : move_by old.script old.parts m.step ≡ Some m
  pub left : new ≡ after_move m old

-- the step wasn't ready, and nothing changed
pub record Stays (old new : Serving) (step : StepName) : Type 0 where
  pub ready : move_by old.script old.parts step ≡ None
  pub same : new ≡ old

-- the entry of the step's move, where the step is ready
abbrev pub Answers : StepName → Serving → Option Entry → Serving → Type 0
Answers step old (Some e) new = Makes old new (move_with step (Some e))
Answers step old None new = Stays old new step

-- the same of a step that adds no entry
abbrev pub AnswersSilently : StepName → Serving → Bool → Serving → Type 0
AnswersSilently step old true new = Makes old new (move_with step None)
AnswersSilently step old false new = Stays old new step
