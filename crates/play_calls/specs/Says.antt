-- The status and the whole text that belong to an input: what `play` and `gen` write. (docs/FORMATS.md)
use Rattle.std.specs.Prelude.{◌≡◌, ℕ, List, ◌++◌, Ok}
use Rattle.io_edge.specs.States.{SinkState, Writes}
use Rattle.cam_types.specs.declared.script.Script.{Script}
use Rattle.play_calls.specs.Generated.{generated}
use Rattle.run_model.specs.Lawful.{KeepsLaws}
use Rattle.script_text.specs.Grammar.{script_of}
use Rattle.run_model.specs.History.{trace_of}
use Rattle.run_model.specs.Played.{IsPlayedRun}
use Rattle.run_model.specs.declared.step.Move.{Move}
use Rattle.call_parts.specs.Answers.{Answers}
use Rattle.call_parts.specs.Meanings.{OfScript}
use Rattle.call_parts.specs.Texts.{text_in}
use Rattle.call_parts.specs.declared.output.Output.{Output}
use Rattle.call_parts.specs.declared.output.Output.TheVariants.{Trace, Summary}

-- the text is that of the played run of the script, which is complete
pub record IsPlayedText (output : Output) (script : Script) (text : List ℕ) : Type 0 where
  pub history : List Move
  pub run : IsPlayedRun script history
  pub shown : text ≡ text_in output script history

-- the whole text of the script's played run is written, or the status is 4 and the sink failed: nothing else is answered
pub record PlaysAs (output : Output) (script : Script) (status : ℕ) (before after : SinkState) : Type 0 where
  pub history : List Move
  pub run : IsPlayedRun script history
  pub answers : Answers 0 (text_in output script history) status before after

-- the same behind a front
pub record PlaysBehind (front : List ℕ) (output : Output) (script : Script) (status : ℕ) (before after : SinkState) : Type 0 where
  pub history : List Move
  pub run : IsPlayedRun script history
  pub answers : Answers 0 (front ++ text_in output script history) status before after

-- of a script that is played
abbrev pub SaysOfScript : Output → Script → ℕ → List ℕ → Type 0
SaysOfScript output script status text = (status ≡ 0) × IsPlayedText output script text

-- of an input: what its meaning as a script says
abbrev pub Says : List ℕ → ℕ → List ℕ → Type 0
Says input status text = OfScript (SaysOfScript Trace) input status text

-- of a seed and a count: the summary of the script that they generate
abbrev pub SaysOfSeed : ℕ → ℕ → ℕ → List ℕ → Type 0
SaysOfSeed seed count status text = SaysOfScript Summary (generated seed count) status text

-- the text of the script's played run was written, which is complete and keeps the laws
pub record IsWholeRun (output : Output) (script : Script) (before after : SinkState) : Type 0 where
  pub history : List Move
  pub run : IsPlayedRun script history
  pub lawful : KeepsLaws script (trace_of history)
  pub written : Writes before after (text_in output script history)

-- the headline: the source's bytes spell a script, and what was written is the spelling of the trace of its played run,
-- which is complete and keeps the laws
pub record IsWhole (input : List ℕ) (before after : SinkState) : Type 0 where
  pub script : Script
  pub meaning : script_of input ≡ Ok script
  pub played : IsWholeRun Trace script before after
