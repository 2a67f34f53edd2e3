-- That the lines which `command_line`, `fault_line` and `pick_line` find are those of a script's own commands, faults
-- and picks.
use Rattle.std.specs.Prelude.{◌≡◌, ℕ, List, [], ◌∷◌, Some, Result, Ok, Err, map, Option}
use Rattle.cam_types.specs.declared.script.Command.{Command}
use Rattle.cam_types.specs.declared.script.Fault.{Fault}
use Rattle.cam_types.specs.declared.script.Script.{Script}
use Rattle.text_parts.specs.Values.{number}
use Rattle.text_parts.specs.declared.cause.Cause.{Cause}
use Rattle.text_parts.specs.declared.cause.Cause.TheVariants.{Missing}
use Rattle.script_text.specs.Grammar.{closed}
use Rattle.script_text.specs.Lines.{CommandLine, FaultLine, Line, line_of}
use Rattle.text_parts.specs.Words.{loose_words}
use Rattle.wrong_words.specs.Places.{lines_of_kind, picks_of}
use Rattle.wrong_words.specs.declared.kind.LineKind.TheVariants as kind

-- what a line of a script of the version means, by its words
abbrev pub words_meaning : ℕ → List (List ℕ) → Result Line Cause
words_meaning v [] = Err Missing
words_meaning v (word ∷ words) = line_of v word words

-- what a numbered line means
abbrev pub meaning : ℕ → ℕ × List ℕ → Result Line Cause
meaning v l = words_meaning v (loose_words l.1)

abbrev pub fault_meant : Fault → Result Line Cause
fault_meant f = Ok (FaultLine f)

abbrev pub command_meant : Command → Result Line Cause
command_meant c = Ok (CommandLine c)

-- what the word of a pick means
abbrev pub pick_meant : ℕ × List ℕ → Option ℕ
pick_meant pick = number pick.1

-- The lines of each kind are those of the script, one each and in their order; a `close` that is added has none.
pub record StandsIn (text : List ℕ) (script : Script) : Type 0 where
  pub faults : map (meaning script.version) (lines_of_kind kind.Fault text) ≡ map fault_meant script.faults
  pub written : List Command
  pub commands : map (meaning script.version) (lines_of_kind kind.Command text) ≡ map command_meant written
  pub all : script.commands ≡ closed written
  pub picks : map pick_meant (picks_of text) ≡ map Some script.picks
