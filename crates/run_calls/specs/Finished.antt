-- How a run ends whose beginning was seen.
use Rattle.std.specs.Prelude.{ℕ, List, Option, reverse}
use mathlib.Core.List.{IsPrefix}
use Rattle.cam_types.specs.declared.profile.Profile.{Profile}
use Rattle.cam_types.specs.declared.script.Script.{Script}
use Rattle.io_edge.specs.States.{SinkState}
use Rattle.call_parts.specs.Answers.{Answers}
use Rattle.run_model.specs.Lawful.{KeepsLaws}
use Rattle.run_model.specs.History.{trace_of}
use Rattle.run_model.specs.Run.{IsRun}
use Rattle.run_model.specs.declared.step.Move.{Move}
use Rattle.trace_model.specs.Complete.{IsComplete}
use Rattle.trace_text.specs.Spelling.{spelling}

-- a run of the script, whichever step was chosen at each place, which is complete and keeps the laws
pub record IsWholeHistory (script : Script) (history : List Move) : Type 0 where
  pub run : IsRun script history
  pub complete : IsComplete script (trace_of history)
  pub lawful : KeepsLaws script (trace_of history)

-- the whole trace of such a run is written, in the version that the profile says; or the status is 4 and the sink
-- failed. The run begins with the moves that were seen, the oldest first
pub record FinishesAs (named : Option Profile) (script : Script) (seen : List Move) (status : ℕ) (before after : SinkState) : Type 0 where
  pub history : List Move
  pub begins : IsPrefix seen (reverse history)
  pub whole : IsWholeHistory script history
  pub answers : Answers 0 (spelling named (reverse (trace_of history))) status before after
