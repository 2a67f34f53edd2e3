use Rattle.std.specs.Prelude.{◌≡◌, Option, Some, None, IsTrue}
use Rattle.cam_types.specs.Script.{is_valid}
use Rattle.trace_model.specs.declared.entry.Entry.{Entry}
use Rattle.trace_laws.specs.Typed.{is_typed}
use Rattle.run_model.specs.declared.step.StepName.{StepName}
use Rattle.run_model.specs.Bounds.{move_bound}
use Rattle.run_model.specs.Run.{IsRun}
use Rattle.run_model.specs.Moves.{Moves, with_move}
use Rattle.run_model.specs.State.{State}
use Rattle.service_parts.specs.Parts.{parts}
use Rattle.service_state.specs.Serving.{Serving}

-- What a service holds: the parts, and the log of its moves.

-- what a contract sees of them
abbrev pub state_of : Serving → Moves → State
state_of s log = record { script = s.script; history = log.moves }

-- the parts are those that the log leaves, which is a run of the script, and has room for all that a run can make
pub record IsKept (s : Serving) (log : Moves) : Type 0 where
  pub left : s.parts ≡ parts s.script log.moves
  pub run : IsRun s.script log.moves
  pub limit : log.limit ≡ move_bound s.script
  pub typed : IsTrue (is_typed s.script)
  pub valid : IsTrue (is_valid s.script)

-- the log with the move of a step that added an entry, where it was made
abbrev pub moves_after : StepName → Option Entry → Moves → Moves
moves_after step (Some e) log = with_move (record { step = step; entry = Some e }) log
moves_after step None log = log
