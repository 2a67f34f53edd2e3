-- Which step a pick names of two cameras, and what the step answers. (docs/FORMATS.md, logical camera)
use Rattle.std.specs.Prelude.{◌≡◌, ℕ, zero, suc, ◌-◌, ◌/◌, ◌%◌, ◌⊎◌, false, List, Option, Some, None, IsTrue}
use Rattle.cam_types.specs.declared.script.Script.{Script}
use Rattle.trace_model.specs.declared.entry.Entry.{Entry}
use Rattle.trace_model.specs.Complete.{IsComplete}
use Rattle.trace_model.specs.Printable.{is_printable}
use Rattle.logical_call.specs.declared.pair.Paired.{Paired}
use Rattle.logical_call.specs.declared.pair.Side.{Side}
use Rattle.logical_call.specs.declared.pair.Side.TheVariants.{First, Second}
use Rattle.logical_call.specs.Orderless.{is_logical}
use Rattle.logical_call.specs.Sides.{first_part, paired, second_part}
use Rattle.run_model.specs.State.{State}
use Rattle.run_model.specs.declared.step.Move.{Move}
use Rattle.run_model.specs.History.{trace_of}
use Rattle.run_model.specs.Played.{move_at}
use Rattle.service_core.specs.Answers.{after}
use Rattle.settle.specs.Stepping.{picked}
use Rattle.logical_call.specs.Both.{Both, camera, with_move}
use Rattle.logical_call.specs.declared.logical.LogicalRefused.{LogicalRefused}
use Rattle.logical_call.specs.declared.logical.LogicalRefused.TheVariants.{NotLogical, NoMemory}
use Rattle.logical_call.specs.declared.logical.LogicalStep.{LogicalStep}
use Rattle.logical_call.specs.declared.logical.LogicalStep.TheVariants.{Did, Finished}

-- a script is refused where it isn't logical, and for want of memory only where it is
abbrev pub IsRefused : Script → LogicalRefused → Type 0
IsRefused script NotLogical = is_logical script ≡ false
IsRefused script NoMemory = IsTrue (is_logical script)

-- ---- the step that a pick names

abbrev pub IsOver : State → Type 0
IsOver s = IsComplete s.script (trace_of s.history)

-- it is camera c's turn: the pick modulo 2 names it, or names the other, whose run is complete
pub record IsTurn (both : Both) (pick c : ℕ) : Type 0 where
  pub going : ¬ IsOver (camera c both)
  pub named : (c ≡ pick % 2) ⊎ ((c ≡ 1 - pick % 2) × IsOver (camera (pick % 2) both))

-- the move of a camera's candidate of this number, modulo how many there are
abbrev pub choice : State → ℕ → Option Move
choice s number = move_at s.script s.history (picked s number)

-- ---- what a step answers

-- the camera has made that move, and its entry is the answer
pub record MakesChoice (old new : State) (number : ℕ) (entry : Option Entry) : Type 0 where
  pub move : Move
  pub chosen : choice old number ≡ Some move
  pub left : new ≡ after move old
  pub of : entry ≡ move.entry

-- what a camera did, of two
abbrev pub side : ℕ → Entry → Side
side zero e = First e
side (suc _) e = Second e

-- the frame that has ended in the second of the two by an entry of camera c
abbrev pub pair_by : ℕ → Option Entry → List Side → Option Paired
pair_by c (Some e) sides = paired (side c e) sides
pair_by c None sides = None

-- these are the entries of both, in some order
pub record AreEntries (both : Both) (sides : List Side) : Type 0 where
  pub first : first_part sides ≡ trace_of both.first
  pub second : second_part sides ≡ trace_of both.second

-- camera c has made the move of its candidate of this number, and the other nothing; in whatever order both did what
-- they did before, the answer has the frame that has ended in the second of the two by the entry
pub record MakesStep (c : ℕ) (old new : Both) (number : ℕ) (entry : Option Entry) (pair : Option Paired) : Type 0 where
  pub move : Move
  pub chosen : choice (camera c old) number ≡ Some move
  pub left : new ≡ with_move c move old
  pub of : entry ≡ move.entry
  pub paired : (sides : List Side) → AreEntries old sides → pair ≡ pair_by c entry sides

pub record IsFinished (old new : Both) : Type 0 where
  pub first : IsOver (camera 0 old)
  pub second : IsOver (camera 1 old)
  pub same : new ≡ old

-- a step is made of the camera whose turn it is: half of the pick is the number of its candidate; or both runs are
-- complete, and nothing changes
abbrev pub AnswersStep : Both → ℕ → LogicalStep → Both → Type 0
AnswersStep old pick (Did c entry pair) new = IsTurn old pick c × MakesStep c old new (pick / 2) entry pair
AnswersStep old pick Finished new = IsFinished old new

-- the entry that is answered has a line
abbrev pub HasLine : LogicalStep → Type 0
HasLine (Did c (Some e) pair) = IsTrue (is_printable e)
HasLine (Did c None pair) = Unit {0}
HasLine Finished = Unit {0}

-- ---- the parts of this

-- the answer is a step of camera c
abbrev pub IsStepOf : ℕ → Both → ℕ → LogicalStep → Both → Type 0
IsStepOf c old number (Did d entry pair) new = (d ≡ c) × MakesStep c old new number entry pair
IsStepOf c old number Finished new = ⊥
