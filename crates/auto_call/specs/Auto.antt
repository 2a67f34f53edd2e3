-- What `auto` answers and writes. (docs/FORMATS.md, automatic exposure)
use Rattle.std.specs.Prelude.{◌≡◌, ℕ, List, ◌++◌, Ok}
use Rattle.io_edge.specs.States.{SinkState, Writes}
use Rattle.cam_types.specs.declared.script.Script.{Script}
use Rattle.auto_call.specs.Grammar.{auto_text, auto_text_of}
use Rattle.auto_call.specs.declared.text.AutoText.{AutoText}
use Rattle.auto_call.specs.OutputLines.{front_of}
use Rattle.auto_call.specs.Output.{lines_of, script_of, shots_of}
use Rattle.run_model.specs.Lawful.{KeepsLaws}
use Rattle.run_model.specs.History.{trace_of}
use Rattle.run_model.specs.Played.{IsPlayedRun}
use Rattle.run_model.specs.declared.step.Move.{Move}
use Rattle.call_parts.specs.Reading.{OfText}
use Rattle.call_parts.specs.Texts.{text_in}
use Rattle.call_parts.specs.declared.output.Output.TheVariants.{Trace}

-- the script of the frames of a text's scenes
abbrev pub frames_script : AutoText → Script
frames_script text = script_of (shots_of text)

-- the lines of frames and scenes, and behind them the trace of a run of the frames
abbrev pub captured_in : AutoText → List Move → List ℕ
captured_in text history = front_of (lines_of text) ++ text_in Trace (frames_script text) history

-- the text is the lines and the trace of the frames' played run, which is complete
pub record IsCapturedText (text : AutoText) (told : List ℕ) : Type 0 where
  pub history : List Move
  pub run : IsPlayedRun (frames_script text) history
  pub shown : told ≡ captured_in text history

-- the status and the whole text that belong to an input
abbrev pub Captures : List ℕ → ℕ → List ℕ → Type 0
Captures input status told = OfText auto_text IsCapturedText input status told

-- the input asks for scenes, and what was written is the lines of their frames, found by the least exposures alone, and
-- the trace of the frames' played run, which is complete and keeps the laws
pub record IsCaptured (input : List ℕ) (before after : SinkState) : Type 0 where
  pub text : AutoText
  pub meaning : auto_text_of input ≡ Ok text
  pub history : List Move
  pub run : IsPlayedRun (frames_script text) history
  pub lawful : KeepsLaws (frames_script text) (trace_of history)
  pub written : Writes before after (captured_in text history)
