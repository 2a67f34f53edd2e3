-- What `explain` answers and writes. (docs/FORMATS.md, What explain writes)
use Rattle.std.specs.Prelude.{◌≡◌, ◌≢◌, ◌+◌, ℕ, List, [], Option, Some, None, Result, Ok, Err, ◌⊎◌, reverse, slice_get, take}
use Rattle.io_edge.specs.States.{SinkState, Writes}
use Rattle.cam_types.specs.declared.script.Script.{Script}
use Rattle.text_parts.specs.declared.cause.TextRefused.{TextRefused}
use Rattle.text_parts.specs.declared.cause.TextRefused.TheVariants.{Bad, NoMemory}
use Rattle.script_text.specs.Grammar.{script_of}
use Rattle.trace_model.specs.Verdict.{IsVerdict}
use Rattle.trace_model.specs.declared.verdict.Verdict.{Verdict}
use Rattle.trace_model.specs.declared.verdict.Verdict.TheVariants.{Legal, IllegalAt, Incomplete}
use Rattle.trace_model.specs.declared.entry.Entry.{Entry}
use Rattle.trace_model.specs.declared.list.TraceList.{TraceList}
use Rattle.trace_model.specs.Complete.{IsComplete}
use Rattle.trace_reader.specs.Grammar.{trace_of}
use Rattle.trace_reader.specs.declared.cause.TraceRefused.{TraceRefused}
use Rattle.trace_reader.specs.declared.cause.TraceRefused.TheVariants.{Bad as BadTrace, NoMemory as NoTraceMemory}
use Rattle.call_parts.specs.Lines.{verdict_status}
use Rattle.call_parts.specs.Parts.{first_line, script_part, trace_part}
use Rattle.call_parts.specs.Profiles.{profile_of}
use Rattle.call_parts.specs.Meanings.{OfLimited}
use Rattle.explain_call.specs.Missing.{incomplete_text}
use Rattle.wrong_words.specs.Refused.{refused_input, refused_profile, refused_script, refused_trace}
use Rattle.explain_call.specs.Explained.{illegal_text, legal_text}
use Rattle.explain_call.specs.Length.{IsPlayedLength}
use Rattle.rule_conditions.specs.Conditions.{first_failed}
use Rattle.trace_model.specs.declared.verdict.RuleName.{RuleName}

-- In all of these `part` is the script's text, and `bytes` are the trace's.

-- the entry behind those before it is told with the first condition that it doesn't meet
abbrev pub illegal_behind : Script → List ℕ → RuleName → ℕ → ℕ → List Entry → Option Entry → List ℕ
illegal_behind script part rule k position before None = []
illegal_behind script part rule k position before (Some faulty) =
    illegal_text script part rule k position before faulty (first_failed script (reverse before) faulty)

-- that at the position
abbrev pub illegal_at : Script → List ℕ → RuleName → ℕ → ℕ → List Entry → List ℕ
illegal_at script part rule k position trace =
    illegal_behind script part rule k position (take position trace) (slice_get trace position)

-- what is written of a verdict on a trace, whose first entry's line has the number k; the script's played run has so
-- many moves
abbrev pub explained : Script → List ℕ → ℕ → ℕ → List Entry → Verdict → List ℕ
explained script part moves k trace Legal = legal_text script part moves k trace
explained script part moves k trace (IllegalAt position rule) = illegal_at script part rule k position trace
explained script part moves k trace (Incomplete missing) = incomplete_text script k trace missing

-- so many moves are those of the script's played run, where they are asked for: of a legal trace of a script with picks
abbrev pub CountsMoves : Script → Verdict → ℕ → Type 0
CountsMoves script Legal moves = (script.picks ≢ []) → IsPlayedLength script moves
CountsMoves script _ moves = Unit {0}

-- the trace, whose first entry's line has the number k, has this verdict, which is explained
pub record HasExplanation (script : Script) (part : List ℕ) (k : ℕ) (trace : List Entry) (status : ℕ)
    (text : List ℕ) : Type 0 where
  pub verdict : Verdict
  pub judged : IsVerdict script trace verdict
  pub number : status ≡ verdict_status verdict
  pub moves : ℕ
  pub counted : CountsMoves script verdict moves
  pub shown : text ≡ explained script part moves k trace verdict

-- of a script and a trace, whose first line has the number n: the profiles are compared before the trace is judged
abbrev pub ExplainsBoth : ℕ → List ℕ → List ℕ → Script → TraceList → ℕ → List ℕ → Type 0
ExplainsBoth n part bytes script trace status text =
    ((profile_of trace ≡ script.profile) × HasExplanation script part (n + 1) trace.entries status text)
    ⊎ ((profile_of trace ≢ script.profile) × (status ≡ 1) × (text ≡ refused_profile bytes n script.profile))

-- of a script and what bytes mean as a trace
abbrev pub ExplainsTrace : ℕ → List ℕ → List ℕ → Script → Result TraceList TraceRefused → ℕ → List ℕ → Type 0
ExplainsTrace n part bytes script (Ok trace) status text = ExplainsBoth n part bytes script trace status text
ExplainsTrace n part bytes script (Err (BadTrace line cause)) status text =
    (status ≡ 1) × (text ≡ refused_trace bytes n line cause)
ExplainsTrace n part bytes script (Err NoTraceMemory) status text = ⊥

-- the script is read before the trace
abbrev pub ExplainsParts : ℕ → List ℕ → List ℕ → Result Script TextRefused → Result TraceList TraceRefused → ℕ →
    List ℕ → Type 0
ExplainsParts n part bytes (Ok script) trace status text = ExplainsTrace n part bytes script trace status text
ExplainsParts n part bytes (Err (Bad line cause)) trace status text =
    (status ≡ 1) × (text ≡ refused_script part line cause)
ExplainsParts n part bytes (Err NoMemory) trace status text = ⊥

-- the two parts of an input
abbrev pub ExplainsWhole : List ℕ → ℕ → List ℕ → Type 0
ExplainsWhole input status text =
    let n = first_line input in
    let part = script_part input in
    let bytes = trace_part input in
    ExplainsParts n part bytes (script_of part) (trace_of n bytes) status text

-- the status and the whole text that belong to an input: it is too long, or has two parts
abbrev pub Explains : List ℕ → ℕ → List ℕ → Type 0
Explains input status text = OfLimited refused_input ExplainsWhole input status text

-- the input is a script and a trace of its profile, the trace is a complete legal run of the script, and `legal` was
-- written with what of the script did nothing
pub record IsExplainedLegal (input : List ℕ) (before after : SinkState) : Type 0 where
  pub script : Script
  pub meaning : script_of (script_part input) ≡ Ok script
  pub trace : TraceList
  pub read : trace_of (first_line input) (trace_part input) ≡ Ok trace
  pub agreeing : profile_of trace ≡ script.profile
  pub complete : IsComplete script (reverse trace.entries)
  pub moves : ℕ
  pub counted : CountsMoves script Legal moves
  pub written :
      Writes before after (legal_text script (script_part input) moves (first_line input + 1) trace.entries)
