-- How many moves the played run of a script has. (run_model/specs/Played.antt; docs/FORMATS.md, Picks and candidates)
use Rattle.std.specs.Prelude.{◌≡◌, ℕ, List, length}
use Rattle.cam_types.specs.declared.script.Script.{Script}
use Rattle.run_model.specs.declared.step.Move.{Move}
use Rattle.run_model.specs.Played.{IsPlayedRun}

-- Pick j, counted from 0, chooses move j; so of the picks just so many are used.
pub record IsPlayedLength (script : Script) (moves : ℕ) : Type 0 where
  pub history : List Move
  pub run : IsPlayedRun script history
  pub count : moves ≡ length history
