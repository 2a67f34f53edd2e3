-- The status that belongs to an input of `timeline` is 0 or 1.
use Rattle.std.proofs.Common.{◌≤◌, ◌<◌, ℕ, Bool, true, false, List, Result, Ok, Err, length, arith, inl, inr, if◌then◌else◌}
use Rattle.call_parts.specs.Answers.{AreAnswers}
use Rattle.call_parts.proofs.Meanings.{of_verdict}
use Rattle.cam_types.specs.declared.script.Script.{Script}
use Rattle.hal_timeline.specs.Charts.{breaches_of}
use Rattle.hal_timeline.specs.Groups.{is_some_breach}
use Rattle.hal_text.specs.Meaning.{log_of}
use Rattle.hal_text.specs.declared.log.HalLog.{HalLog}
use Rattle.hal_text.specs.declared.refused.LogRefused.{LogRefused}
use Rattle.hal_text.specs.declared.refused.LogRefused.TheVariants.{Bad as BadLog, NoMemory as NoLogMemory}
use Rattle.text_parts.specs.declared.cause.TextRefused.{TextRefused}
use Rattle.text_parts.specs.declared.cause.TextRefused.TheVariants.{Bad, NoMemory}
use Rattle.script_text.specs.Grammar.{script_of}
use Rattle.trace_model.specs.declared.list.TraceList.{TraceList}
use Rattle.trace_reader.specs.Grammar.{trace_of}
use Rattle.trace_reader.specs.declared.cause.TraceRefused.{TraceRefused}
use Rattle.trace_reader.specs.declared.cause.TraceRefused.TheVariants.{Bad as BadTrace, NoMemory as NoTraceMemory}
use Rattle.call_parts.specs.Parts.{first_line, script_part, trace_part}
use Rattle.run_views.specs.Shown.{ShowsBoth, ShowsKind, ShowsLog, ShowsParts, ShowsTrace}
use Rattle.run_views.specs.Kinds.{is_hal}
use Rattle.run_views.specs.declared.form.Form.{Form}

both : (form : Form) (n : ℕ) (script : Script) (trace : TraceList) → AreAnswers (ShowsBoth form n script trace)
both form n script trace wanted text (inl h) = let small = of_verdict h.1.verdict in omega (arith, h.1.number, small)
both form n script trace wanted text (inr h) = omega (arith, h.1)

of-trace : (form : Form) (n : ℕ) (script : Script) (meaning : Result TraceList TraceRefused) → AreAnswers (ShowsTrace form n script meaning)
of-trace form n script (Ok trace) wanted text h = both form n script trace wanted text h
of-trace form n script (Err (BadTrace line cause)) wanted text h = omega (arith, h.0)
of-trace form n script (Err NoTraceMemory) wanted text h = absurd h

of-parts : (form : Form) (n : ℕ) (script : Result Script TextRefused) (trace : Result TraceList TraceRefused) → AreAnswers (ShowsParts form n script trace)
of-parts form n (Ok script) trace wanted text h = of-trace form n script trace wanted text h
of-parts form n (Err (Bad line cause)) trace wanted text h = omega (arith, h.0)
of-parts form n (Err NoMemory) trace wanted text h = absurd h

one-few : (broken : Bool) → (if broken then 1 else 0) ≤ 1
one-few true = omega arith
one-few false = omega arith

of-log : (form : Form) (meaning : Result HalLog LogRefused) → AreAnswers (ShowsLog form meaning)
of-log form (Ok log) wanted text h = let small = one-few (is_some_breach (breaches_of log)) in omega (arith, h.0, small)
of-log form (Err (BadLog line cause)) wanted text h = omega (arith, h.0)
of-log form (Err NoLogMemory) wanted text h = absurd h

of-kind : (form : Form) (input : List ℕ) (kind : Bool) → AreAnswers (ShowsKind form input kind)
of-kind form input true wanted text h = of-log form (log_of input) wanted text h
of-kind form input false wanted text h =
    of-parts form (first_line input) (script_of (script_part input)) (trace_of (first_line input) (trace_part input)) wanted text h

pub are_shown : (form : Form) (input : List ℕ) → AreAnswers (ShowsKind form input (is_hal input))
are_shown form input = of-kind form input (is_hal input)
