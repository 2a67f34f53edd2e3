-- What `timeline` answers and writes. (docs/FORMATS.md)
use Rattle.std.specs.Prelude.{◌≡◌, ◌≢◌, ℕ, Bool, List, Result, Ok, Err, reverse, true, false, ◌⊎◌}
use Rattle.io_edge.specs.States.{SinkState, Writes}
use Rattle.cam_types.specs.declared.script.Script.{Script}
use Rattle.hal_text.specs.Meaning.{log_of}
use Rattle.hal_text.specs.declared.refused.LogRefused.{LogRefused}
use Rattle.hal_text.specs.declared.refused.LogRefused.TheVariants.{Bad as BadLog, NoMemory as NoLogMemory}
use Rattle.hal_text.specs.declared.log.HalLog.{HalLog}
use Rattle.hal_text.specs.PersonRefusal.{refused_text as refused_log_text}
use Rattle.hal_timeline.specs.Charts.{breaches_of}
use Rattle.hal_timeline.specs.Groups.{is_some_breach}
use Rattle.text_parts.specs.Causes.{number_of}
use Rattle.text_parts.specs.declared.cause.TextRefused.{TextRefused}
use Rattle.text_parts.specs.declared.cause.TextRefused.TheVariants.{Bad, NoMemory}
use Rattle.script_text.specs.Grammar.{script_of}
use Rattle.trace_model.specs.Verdict.{IsVerdict}
use Rattle.trace_model.specs.declared.verdict.Verdict.{Verdict}
use Rattle.trace_model.specs.declared.verdict.Verdict.TheVariants.{Legal}
use Rattle.trace_model.specs.declared.list.TraceList.{TraceList}
use Rattle.trace_model.specs.Complete.{IsComplete}
use Rattle.trace_reader.specs.Causes.{number_of as trace_number_of}
use Rattle.trace_reader.specs.Grammar.{trace_of}
use Rattle.trace_reader.specs.declared.cause.TraceRefused.{TraceRefused}
use Rattle.trace_reader.specs.declared.cause.TraceRefused.TheVariants.{Bad as BadTrace, NoMemory as NoTraceMemory}
use Rattle.call_parts.specs.Lines.{refused_script_text, refused_trace_text, verdict_status}
use Rattle.call_parts.specs.Parts.{first_line, script_part, trace_part}
use Rattle.call_parts.specs.Profiles.{profile_of}
use Rattle.call_parts.specs.Meanings.{OfLimited}
use Rattle.run_views.specs.declared.form.Form.{Form}
use Rattle.run_views.specs.Fronts.{text_of}
use Rattle.run_views.specs.Kinds.{is_hal}
use Rattle.run_views.specs.Logs.{log_status, log_text}

-- the trace has this verdict, and the text is its timeline
pub record HasTimeline (form : Form) (script : Script) (trace : TraceList) (status : ℕ) (text : List ℕ) : Type 0 where
  pub verdict : Verdict
  pub judged : IsVerdict script trace.entries verdict
  pub number : status ≡ verdict_status verdict
  pub shown : text ≡ text_of form script trace.entries verdict

-- of a script and a trace, whose first line has the number n: the profiles are compared before the trace is judged
abbrev pub ShowsBoth : Form → ℕ → Script → TraceList → ℕ → List ℕ → Type 0
ShowsBoth form n script trace status text =
    ((profile_of trace ≡ script.profile) × HasTimeline form script trace status text)
    ⊎ ((profile_of trace ≢ script.profile) × (status ≡ 1) × (text ≡ refused_trace_text n 46))

-- of a script and what a text means as a trace
abbrev pub ShowsTrace : Form → ℕ → Script → Result TraceList TraceRefused → ℕ → List ℕ → Type 0
ShowsTrace form n script (Ok trace) status text = ShowsBoth form n script trace status text
ShowsTrace form n script (Err (BadTrace line cause)) status text =
    (status ≡ 1) × (text ≡ refused_trace_text line (trace_number_of cause))
ShowsTrace form n script (Err NoTraceMemory) status text = ⊥

-- the script is read before the trace
abbrev pub ShowsParts : Form → ℕ → Result Script TextRefused → Result TraceList TraceRefused → ℕ → List ℕ → Type 0
ShowsParts form n (Ok script) trace status text = ShowsTrace form n script trace status text
ShowsParts form n (Err (Bad line cause)) trace status text =
    (status ≡ 1) × (text ≡ refused_script_text line (number_of cause))
ShowsParts form n (Err NoMemory) trace status text = ⊥

-- the two parts of an input
abbrev pub ShowsWhole : Form → List ℕ → ℕ → List ℕ → Type 0
ShowsWhole form input status text =
    let n = first_line input in
    ShowsParts form n (script_of (script_part input)) (trace_of n (trace_part input)) status text

-- of what a text means as a hal log
abbrev pub ShowsLog : Form → Result HalLog LogRefused → ℕ → List ℕ → Type 0
ShowsLog form (Ok log) status text = (status ≡ log_status log) × (text ≡ log_text form log)
ShowsLog form (Err (BadLog line cause)) status text = (status ≡ 1) × (text ≡ refused_log_text line cause)
ShowsLog form (Err NoLogMemory) status text = ⊥

-- of an input that is a hal log, or isn't
abbrev pub ShowsKind : Form → List ℕ → Bool → ℕ → List ℕ → Type 0
ShowsKind form input true status text = ShowsLog form (log_of input) status text
ShowsKind form input false status text = ShowsWhole form input status text

-- the status and the whole text that belong to an input: it is too long, or is of one of the kinds
abbrev pub Shows : Form → List ℕ → ℕ → List ℕ → Type 0
Shows form input status text =
    OfLimited (refused_trace_text 0 45) (λ short. ShowsKind form short (is_hal short)) input status text

-- the input is a script and a trace of its profile, the trace is a complete legal run of the script, and its timeline
-- was written, and nothing else
pub record IsTraceShown (form : Form) (input : List ℕ) (before after : SinkState) : Type 0 where
  pub kind : is_hal input ≡ false
  pub script : Script
  pub meaning : script_of (script_part input) ≡ Ok script
  pub trace : TraceList
  pub read : trace_of (first_line input) (trace_part input) ≡ Ok trace
  pub agreeing : profile_of trace ≡ script.profile
  pub complete : IsComplete script (reverse trace.entries)
  pub written : Writes before after (text_of form script trace.entries Legal)

-- the input is a hal log that breaks none of the rules, and its timeline was written, and nothing else
pub record IsLogShown (form : Form) (input : List ℕ) (before after : SinkState) : Type 0 where
  pub kind : is_hal input ≡ true
  pub log : HalLog
  pub meaning : log_of input ≡ Ok log
  pub kept : is_some_breach (breaches_of log) ≡ false
  pub written : Writes before after (log_text form log)

abbrev pub IsShown : Form → List ℕ → SinkState → SinkState → Type 0
IsShown form input before after = IsTraceShown form input before after ⊎ IsLogShown form input before after
