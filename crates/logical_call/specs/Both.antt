-- Two cameras that run one script side by side. (docs/FORMATS.md, logical camera)
use Rattle.std.specs.Prelude.{ℕ, zero, suc, List, [], ◌∷◌}
use Rattle.cam_types.specs.declared.script.Script.{Script}
use Rattle.logical_call.specs.Orderless.{without_faults}
use Rattle.run_model.specs.State.{State}
use Rattle.run_model.specs.declared.step.Move.{Move}

-- the script, and the moves of camera 0 and of camera 1, the newest first
pub record Both : Type 0 where
  pub script : Script
  pub first : List Move
  pub second : List Move

abbrev pub at_first : Script → Both
at_first script = record { script = script; first = []; second = [] }

-- camera 0 runs the script with its faults, camera 1 the script without them
abbrev pub camera : ℕ → Both → State
camera zero both = record { script = both.script; history = both.first }
camera (suc _) both = record { script = without_faults both.script; history = both.second }

-- both with one more move of a camera
abbrev pub with_move : ℕ → Move → Both → Both
with_move zero m both = record { script = both.script; first = m ∷ both.first; second = both.second }
with_move (suc _) m both = record { script = both.script; first = both.first; second = m ∷ both.second }
