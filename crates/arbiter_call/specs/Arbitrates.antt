-- What `arbiter` answers and writes. (docs/FORMATS.md, several clients)
use Rattle.std.specs.Prelude.{◌≡◌, ℕ, List, [], ◌∷◌, ◌++◌, Option, Some, None, Ok}
use Rattle.io_edge.specs.States.{SinkState, Writes}
use Rattle.cam_types.specs.declared.script.Script.{Script}
use Rattle.arbiter_call.specs.Answers.{log_of}
use Rattle.arbiter_call.specs.Laws.{IsOver, KeepsLaws}
use Rattle.arbiter_call.specs.declared.answer.LogLine.{LogLine}
use Rattle.arbiter_call.specs.Grammar.{arbiter, arbiter_text_of}
use Rattle.arbiter_call.specs.Scripts.{script_behind}
use Rattle.arbiter_call.specs.Spelling.{first_line, last_line, line_of}
use Rattle.arbiter_call.specs.declared.text.ArbiterText.{ArbiterText}
use Rattle.run_model.specs.Lawful as run_laws
use Rattle.run_model.specs.History.{trace_of}
use Rattle.run_model.specs.Played.{IsPlayedRun}
use Rattle.run_model.specs.declared.step.Move.{Move}
use Rattle.call_parts.specs.Reading.{OfText}
use Rattle.call_parts.specs.Texts.{text_in}
use Rattle.call_parts.specs.declared.output.Output.TheVariants.{Summary}

-- the summary of the played run of a session's script, which is complete and keeps the laws
pub record IsSummary (script : Script) (told : List ℕ) : Type 0 where
  pub history : List Move
  pub run : IsPlayedRun script history
  pub lawful : run_laws.KeepsLaws script (trace_of history)
  pub shown : told ≡ text_in Summary script history

-- some such bytes were appended
abbrev pub Adds : (List ℕ → Type 0) → List ℕ → List ℕ → Type 0
Adds Fits before after = (told : List ℕ) × Fits told × (after ≡ before ++ told)

-- what stands behind a line: the summary of the session that it ends, or nothing
abbrev pub IsBehind : Option Script → List ℕ → Type 0
IsBehind None told = told ≡ []
IsBehind (Some script) told = IsSummary script told

-- a line of the log, with what stands behind it
pub record IsLineText (line : LogLine) (told : List ℕ) : Type 0 where
  pub summary : List ℕ
  pub behind : IsBehind (script_behind line) summary
  pub shown : told ≡ line_of line ++ summary

-- the version line, and the lines of a log, of which the newest is given first
abbrev pub IsLogText : List LogLine → List ℕ → Type 0
IsLogText [] told = told ≡ first_line
IsLogText (line ∷ past) told = (before : List ℕ) × IsLogText past before × Adds (IsLineText line) before told

-- the same with the last line
pub record IsWholeText (past : List LogLine) (told : List ℕ) : Type 0 where
  pub before : List ℕ
  pub lines : IsLogText past before
  pub shown : told ≡ before ++ last_line

-- The whole text of what clients ask: that of the log of their lines, with the leaves of all that hold a camera behind
-- the last. The log keeps the laws: one holder a camera, one camera a client, and each session has ended once.
pub record IsArbitratedText (text : ArbiterText) (told : List ℕ) : Type 0 where
  pub whole : IsWholeText (log_of text.cameras text.lines) told
  pub laws : KeepsLaws (log_of text.cameras text.lines)
  pub over : IsOver (log_of text.cameras text.lines)

-- the status and the whole text that belong to an input
abbrev pub Arbitrates : List ℕ → ℕ → List ℕ → Type 0
Arbitrates input status told = OfText arbiter IsArbitratedText input status told

-- the input says what clients ask of cameras, and what was written is the whole text of their log
pub record IsArbitrated (input : List ℕ) (before after : SinkState) : Type 0 where
  pub text : ArbiterText
  pub meaning : arbiter_text_of input ≡ Ok text
  pub told : List ℕ
  pub shown : IsArbitratedText text told
  pub written : Writes before after told
