-- What `logical` answers and writes. (docs/FORMATS.md, logical camera)
use Rattle.std.specs.Prelude.{◌≡◌, ℕ, ◌*◌, ◌≤◌, Bool, true, false, List, Result, Ok, Err, count_by, length, nat_lt, if◌then◌else◌, IsTrue}
use Rattle.io_edge.specs.States.{SinkState, Writes}
use Rattle.cam_types.specs.declared.script.Script.{Script}
use Rattle.call_parts.specs.Lines.{refused_script_text}
use Rattle.call_parts.specs.Meanings.{OfScript}
use Rattle.logical_call.specs.Runs.{Deed, IsJointRun, both_by, sides_by}
use Rattle.logical_call.specs.Courses.{items}
use Rattle.logical_call.specs.Orderless.{is_logical, without_faults}
use Rattle.logical_call.specs.Sides.{is_pair_of, pairs}
use Rattle.run_model.specs.Lawful.{KeepsLaws}
use Rattle.run_model.specs.Bounds.{move_bound}
use Rattle.run_model.specs.History.{trace_of}
use Rattle.script_text.specs.Grammar.{script_of}
use Rattle.logical_call.specs.Lines.{run_text}

-- the text is that of the joint run of the script
pub record IsRunText (script : Script) (told : List ℕ) : Type 0 where
  pub deeds : List Deed
  pub run : IsJointRun script deeds
  pub shown : told ≡ run_text deeds

-- the status and the whole text that belong to a script that two cameras run
abbrev pub TellsOfRun : Script → ℕ → List ℕ → Type 0
TellsOfRun script status told = (status ≡ 0) × IsRunText script told

-- to a script that may be one: 61 where it isn't logical
abbrev pub TellsWhere : Bool → Script → ℕ → List ℕ → Type 0
TellsWhere true script status told = TellsOfRun script status told
TellsWhere false script status told = (status ≡ 1) × (told ≡ refused_script_text 0 61)

abbrev pub TellsOfScript : Script → ℕ → List ℕ → Type 0
TellsOfScript script status told = TellsWhere (is_logical script) script status told

-- to an input: what its meaning as a script tells
abbrev pub TellsBoth : List ℕ → ℕ → List ℕ → Type 0
TellsBoth input status told = OfScript TellsOfScript input status told

-- the input spells a logical script, and what was written is the joint run that the picks choose: both parts are complete
-- and keep the laws, each item has one pair, and there are at most twice as many steps as the bound
pub record IsLogicalWhole (input : List ℕ) (before after : SinkState) : Type 0 where
  pub script : Script
  pub meaning : script_of input ≡ Ok script
  pub logical : IsTrue (is_logical script)
  pub deeds : List Deed
  pub run : IsJointRun script deeds
  pub first : KeepsLaws script (trace_of (both_by script deeds).first)
  pub second : KeepsLaws (without_faults script) (trace_of (both_by script deeds).second)
  pub paired : (n : ℕ) → count_by (is_pair_of n) (pairs (sides_by deeds)) ≡ (if nat_lt n (length (items script)) then 1 else 0)
  pub few : length deeds ≤ 2 * move_bound script
  pub written : Writes before after (run_text deeds)
