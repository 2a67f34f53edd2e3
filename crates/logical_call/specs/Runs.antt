-- Which joint run the picks of a script choose. (docs/FORMATS.md, logical camera)
use Rattle.std.specs.Prelude.{◌≡◌, ℕ, ◌/◌, List, [], ◌∷◌, Option, Some, None, length}
use Rattle.cam_types.specs.declared.script.Script.{Script}
use Rattle.trace_model.specs.declared.entry.Entry.{Entry}
use Rattle.logical_call.specs.declared.pair.Side.{Side}
use Rattle.run_model.specs.declared.step.Move.{Move}
use Rattle.run_model.specs.Played.{pick_at}
use Rattle.logical_call.specs.Both.{Both, at_first, camera, with_move}
use Rattle.logical_call.specs.Turns.{IsOver, IsTurn, choice, side}

-- a move of camera 0 or of camera 1
pub record Deed : Type 0 where
  pub camera : ℕ
  pub move : Move

-- both cameras behind these deeds, the newest first
abbrev pub both_by : Script → List Deed → Both
both_by script [] = at_first script
both_by script (d ∷ deeds) = with_move d.camera d.move (both_by script deeds)

-- what both did, as far as it has an entry
abbrev pub with_side : ℕ → Option Entry → List Side → List Side
with_side c (Some e) sides = side c e ∷ sides
with_side c None sides = sides

abbrev pub sides_by : List Deed → List Side
sides_by [] = []
sides_by (d ∷ deeds) = with_side d.camera d.move.entry (sides_by deeds)

-- the deed is the one that a pick names
pub record IsNamed (both : Both) (pick : ℕ) (d : Deed) : Type 0 where
  pub turn : IsTurn both pick d.camera
  pub chosen : choice (camera d.camera both) (pick / 2) ≡ Some d.move

-- each deed is the one that the script's next pick names
abbrev pub AreNamed : Script → List Deed → Type 0
AreNamed script [] = Unit {0}
AreNamed script (d ∷ deeds) = IsNamed (both_by script deeds) (pick_at script (length deeds)) d × AreNamed script deeds

-- the joint run of a script: chosen by the picks, and complete in both cameras
pub record IsJointRun (script : Script) (deeds : List Deed) : Type 0 where
  pub named : AreNamed script deeds
  pub first : IsOver (camera 0 (both_by script deeds))
  pub second : IsOver (camera 1 (both_by script deeds))
