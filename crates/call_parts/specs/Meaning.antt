use Rattle.std.specs.Prelude.{◌≡◌, ◌≢◌, ℕ, List, Result, Ok, Err, length, nat_lt, true, false, ◌⊎◌}
use Rattle.cam_types.specs.declared.script.Script.{Script}
use Rattle.text_parts.specs.Causes.{number_of}
use Rattle.script_text.specs.Grammar.{script_of}
use Rattle.text_parts.specs.declared.cause.TextRefused.{TextRefused}
use Rattle.text_parts.specs.declared.cause.TextRefused.TheVariants.{Bad, NoMemory}
use Rattle.trace_model.specs.Verdict.{IsVerdict}
use Rattle.trace_model.specs.declared.verdict.Verdict.{Verdict}
use Rattle.trace_model.specs.declared.entry.Entry.{Entry}
use Rattle.trace_model.specs.declared.list.TraceList.{TraceList}
use Rattle.trace_reader.specs.Causes.{number_of as trace_number_of}
use Rattle.trace_reader.specs.Grammar.{trace_of}
use Rattle.trace_reader.specs.declared.cause.TraceRefused.{TraceRefused}
use Rattle.trace_reader.specs.declared.cause.TraceRefused.TheVariants.{Bad as BadTrace, NoMemory as NoTraceMemory}
use Rattle.call_parts.specs.Lines.{refused_script_text, refused_trace_text, verdict_status, verdict_text}
use Rattle.call_parts.specs.Parts.{first_line, script_part, trace_part}
use Rattle.call_parts.specs.Profiles.{profile_of}

-- The status and the whole text that the judge's input has. (docs/FORMATS.md)

-- the most bytes of an input
abbrev pub input_limit : ℕ
input_limit = 134217728

-- the trace has this verdict
pub record HasVerdict (script : Script) (trace : List Entry) (status : ℕ) (text : List ℕ) : Type 0 where
  pub verdict : Verdict
  pub judged : IsVerdict script trace verdict
  pub number : status ≡ verdict_status verdict
  pub shown : text ≡ verdict_text verdict

-- of a script and a trace, whose first line has the number n: the profiles are compared before the trace is judged
abbrev pub JudgesBoth : ℕ → Script → TraceList → ℕ → List ℕ → Type 0
JudgesBoth n script trace status text =
    ((profile_of trace ≡ script.profile) × HasVerdict script trace.entries status text)
    ⊎ ((profile_of trace ≢ script.profile) × (status ≡ 1) × (text ≡ refused_trace_text n 46))

-- of a script and what a text means as a trace
abbrev pub JudgesTrace : ℕ → Script → Result TraceList TraceRefused → ℕ → List ℕ → Type 0
JudgesTrace n script (Ok trace) status text = JudgesBoth n script trace status text
JudgesTrace n script (Err (BadTrace line cause)) status text =
    (status ≡ 1) × (text ≡ refused_trace_text line (trace_number_of cause))
JudgesTrace n script (Err NoTraceMemory) status text = ⊥

-- the script is judged before the trace
abbrev pub JudgesParts : ℕ → Result Script TextRefused → Result TraceList TraceRefused → ℕ → List ℕ → Type 0
JudgesParts n (Ok script) trace status text = JudgesTrace n script trace status text
JudgesParts n (Err (Bad line cause)) trace status text =
    (status ≡ 1) × (text ≡ refused_script_text line (number_of cause))
JudgesParts n (Err NoMemory) trace status text = ⊥

-- the two parts of an input
abbrev pub JudgesWhole : List ℕ → ℕ → List ℕ → Type 0
JudgesWhole input status text =
    let n = first_line input in
    JudgesParts n (script_of (script_part input)) (trace_of n (trace_part input)) status text

-- of an input: it is too long, or has two parts
abbrev pub Judges : List ℕ → ℕ → List ℕ → Type 0
Judges input status text =
    ((nat_lt input_limit (length input) ≡ true) × (status ≡ 1) × (text ≡ refused_trace_text 0 45))
    ⊎ ((nat_lt input_limit (length input) ≡ false) × JudgesWhole input status text)
