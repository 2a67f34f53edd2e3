-- What `convert` answers and writes. (docs/FORMATS.md)
use Rattle.std.specs.Prelude.{◌≡◌, ℕ, List, Some, Result, Ok, Err}
use Rattle.io_edge.specs.States.{SinkState, Writes}
use Rattle.trace_model.specs.declared.list.TraceList.{TraceList}
use Rattle.trace_reader.specs.Causes.{number_of}
use Rattle.trace_reader.specs.Grammar.{trace_of}
use Rattle.trace_reader.specs.declared.cause.TraceRefused.{TraceRefused}
use Rattle.trace_reader.specs.declared.cause.TraceRefused.TheVariants.{Bad, NoMemory}
use Rattle.trace_text.specs.Spelling.{spelling}
use Rattle.call_parts.specs.Lines.{refused_trace_text}
use Rattle.call_parts.specs.Profiles.{profile_of}
use Rattle.call_parts.specs.Meanings.{OfLimited}

-- a trace as one of version 2: its first line names its profile, and the lines behind it are as they are
abbrev pub version_two : TraceList → List ℕ
version_two trace = spelling (Some (profile_of trace)) trace.entries

-- the status and the whole text that belong to what a text means as a trace
abbrev pub Converts : Result TraceList TraceRefused → ℕ → List ℕ → Type 0
Converts (Ok trace) status text = (status ≡ 0) × (text ≡ version_two trace)
Converts (Err (Bad line cause)) status text = (status ≡ 1) × (text ≡ refused_trace_text line (number_of cause))
Converts (Err NoMemory) status text = ⊥

-- of an input: it is too long, or a text whose first line has the number 1
abbrev pub ConvertsInput : List ℕ → ℕ → List ℕ → Type 0
ConvertsInput input status text =
    OfLimited (refused_trace_text 0 45) (λ short. Converts (trace_of 1 short)) input status text

-- the input is the spelling of a trace, and what was written is the whole of that trace as one of version 2
pub record IsConverted (input : List ℕ) (before after : SinkState) : Type 0 where
  pub trace : TraceList
  pub meaning : trace_of 1 input ≡ Ok trace
  pub spelled : input ≡ spelling trace.profile trace.entries
  pub written : Writes before after (version_two trace)
