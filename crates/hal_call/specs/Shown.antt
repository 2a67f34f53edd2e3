-- What `hal-of` answers and writes. (docs/FORMATS.md)
use Rattle.std.specs.Prelude.{◌≡◌, ℕ, List, Ok, length, nat_lt, reverse, Bool, true, false, ◌⊎◌}
use Rattle.io_edge.specs.States.{SinkState, Writes}
use Rattle.cam_types.specs.declared.script.Script.{Script}
use Rattle.script_text.specs.Grammar.{script_of}
use Rattle.trace_model.specs.declared.list.TraceList.{TraceList}
use Rattle.trace_model.specs.Legal.{IsLegal}
use Rattle.trace_reader.specs.Grammar.{trace_of}
use Rattle.trace_model.specs.declared.verdict.Verdict.{Verdict}
use Rattle.trace_model.specs.declared.verdict.Verdict.TheVariants.{IllegalAt}
use Rattle.call_parts.specs.Meaning.{Judges, input_limit}
use Rattle.call_parts.specs.Parts.{first_line, script_part, trace_part}
use Rattle.call_parts.specs.Profiles.{profile_of}
use Rattle.hal_call.specs.Printed.{log_text}

-- an entry of the trace isn't allowed
abbrev pub is_illegal : Verdict → Bool
is_illegal (IllegalAt position rule) = true
is_illegal _ = false

-- the input is this script and this trace of its profile, and the trace is a legal run of the script, complete or not
pub record IsLegalInput (input : List ℕ) (script : Script) (trace : TraceList) : Type 0 where
  pub short : nat_lt input_limit (length input) ≡ false
  pub meaning : script_of (script_part input) ≡ Ok script
  pub read : trace_of (first_line input) (trace_part input) ≡ Ok trace
  pub agreeing : profile_of trace ≡ script.profile
  pub legal : IsLegal script (reverse trace.entries)

-- the text is that of the hal log of such a trace
pub record IsLogOf (input text : List ℕ) : Type 0 where
  pub script : Script
  pub trace : TraceList
  pub is : IsLegalInput input script trace
  pub shown : text ≡ log_text script trace.entries

-- it isn't any such script and trace
abbrev pub HasNoLog : List ℕ → Type 0
HasNoLog input = (script : Script) (trace : TraceList) → IsLegalInput input script trace → ⊥

-- the status and the whole text that belong to an input: its hal log, and where it has none what `check` says of it
abbrev pub Shows : List ℕ → ℕ → List ℕ → Type 0
Shows input status text =
    ((status ≡ 0) × IsLogOf input text) ⊎ ((status ≡ 1) × HasNoLog input × Judges input status text)

-- the hal log was written, and nothing else
pub record IsShown (input : List ℕ) (before after : SinkState) : Type 0 where
  pub text : List ℕ
  pub log : IsLogOf input text
  pub written : Writes before after text
