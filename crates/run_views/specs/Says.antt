-- The status and the whole text that belong to an input: what `candidates` writes. (docs/FORMATS.md)
use Rattle.std.specs.Prelude.{◌≡◌, ℕ, List, Ok}
use Rattle.io_edge.specs.States.{SinkState, Writes}
use Rattle.call_parts.specs.Answers.{Answers}
use Rattle.call_parts.specs.Meanings.{OfScript}
use Rattle.cam_types.specs.declared.script.Script.{Script}
use Rattle.run_model.specs.Lawful.{KeepsLaws}
use Rattle.run_model.specs.History.{trace_of}
use Rattle.run_model.specs.Played.{IsPlayedRun}
use Rattle.run_model.specs.declared.step.Move.{Move}
use Rattle.script_text.specs.Grammar.{script_of}
use Rattle.run_views.specs.Listing.{run_text}

-- the text is that of the played run of the script, which is complete
pub record IsRunText (script : Script) (text : List ℕ) : Type 0 where
  pub history : List Move
  pub run : IsPlayedRun script history
  pub shown : text ≡ run_text script history

-- the whole text of the script's played run is written, or the status is 4 and the sink failed: nothing else is
-- answered
pub record ListsRun (script : Script) (status : ℕ) (before after : SinkState) : Type 0 where
  pub history : List Move
  pub run : IsPlayedRun script history
  pub answers : Answers 0 (run_text script history) status before after

-- of a script that is played
abbrev pub SaysOfScript : Script → ℕ → List ℕ → Type 0
SaysOfScript script status text = (status ≡ 0) × IsRunText script text

-- of an input: what its meaning as a script says
abbrev pub Says : List ℕ → ℕ → List ℕ → Type 0
Says input status text = OfScript SaysOfScript input status text

-- the text of the script's played run was written, which is complete and keeps the laws
pub record IsWholeRun (script : Script) (before after : SinkState) : Type 0 where
  pub history : List Move
  pub run : IsPlayedRun script history
  pub lawful : KeepsLaws script (trace_of history)
  pub written : Writes before after (run_text script history)

-- the headline: the source's bytes spell a script, and what was written are the moves of its played run, which is
-- complete and keeps the laws, with the candidates before each
pub record IsWhole (input : List ℕ) (before after : SinkState) : Type 0 where
  pub script : Script
  pub meaning : script_of input ≡ Ok script
  pub played : IsWholeRun script before after
