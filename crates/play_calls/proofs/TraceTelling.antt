-- The status that belongs to an input of `check` or `convert` is 0 or 1.
use Rattle.std.proofs.Common.{ℕ, List, Result, Ok, Err, arith, inl, inr}
use Rattle.cam_types.specs.declared.script.Script.{Script}
use Rattle.text_parts.specs.declared.cause.TextRefused.{TextRefused}
use Rattle.text_parts.specs.declared.cause.TextRefused.TheVariants.{Bad, NoMemory}
use Rattle.trace_model.specs.declared.list.TraceList.{TraceList}
use Rattle.trace_reader.specs.declared.cause.TraceRefused.{TraceRefused}
use Rattle.trace_reader.specs.declared.cause.TraceRefused.TheVariants.{Bad as BadTrace, NoMemory as NoTraceMemory}
use Rattle.script_text.specs.Grammar.{script_of}
use Rattle.trace_reader.specs.Grammar.{trace_of}
use Rattle.call_parts.specs.Parts.{first_line, script_part, trace_part}
use Rattle.call_parts.specs.Meaning.{JudgesBoth, JudgesParts, JudgesTrace, JudgesWhole}
use Rattle.call_parts.specs.Answers.{AreAnswers}
use Rattle.call_parts.proofs.Meanings.{of_verdict}
use Rattle.play_calls.specs.Converting.{Converts}

of-meaning : (meaning : Result TraceList TraceRefused) → AreAnswers (Converts meaning)
of-meaning (Ok trace) wanted text h = omega (arith, h.0)
of-meaning (Err (BadTrace line cause)) wanted text h = omega (arith, h.0)
of-meaning (Err NoTraceMemory) wanted text h = absurd h

pub are_converted : (input : List ℕ) → AreAnswers (Converts (trace_of 1 input))
are_converted input = of-meaning (trace_of 1 input)

both : (n : ℕ) (script : Script) (trace : TraceList) → AreAnswers (JudgesBoth n script trace)
both n script trace wanted text (inl h) = let small = of_verdict h.1.verdict in omega (arith, h.1.number, small)
both n script trace wanted text (inr h) = omega (arith, h.1)

of-trace : (n : ℕ) (script : Script) (meaning : Result TraceList TraceRefused) → AreAnswers (JudgesTrace n script meaning)
of-trace n script (Ok trace) wanted text h = both n script trace wanted text h
of-trace n script (Err (BadTrace line cause)) wanted text h = omega (arith, h.0)
of-trace n script (Err NoTraceMemory) wanted text h = absurd h

of-parts : (n : ℕ) (script : Result Script TextRefused) (trace : Result TraceList TraceRefused) → AreAnswers (JudgesParts n script trace)
of-parts n (Ok script) trace wanted text h = of-trace n script trace wanted text h
of-parts n (Err (Bad line cause)) trace wanted text h = omega (arith, h.0)
of-parts n (Err NoMemory) trace wanted text h = absurd h

pub are_judged : (input : List ℕ) → AreAnswers (JudgesWhole input)
are_judged input = of-parts (first_line input) (script_of (script_part input)) (trace_of (first_line input) (trace_part input))
