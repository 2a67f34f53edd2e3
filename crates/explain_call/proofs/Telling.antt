-- The status that belongs to an input of `explain` is 0 or 1.
use Rattle.std.proofs.Common.{◌<◌, ℕ, List, Result, Ok, Err, length, arith, inl, inr}
use Rattle.call_parts.specs.Answers.{AreAnswers}
use Rattle.call_parts.proofs.Meanings.{long_limited, of_limited, of_verdict}
use Rattle.wrong_words.specs.Refused.{refused_input}
use Rattle.cam_types.specs.declared.script.Script.{Script}
use Rattle.text_parts.specs.declared.cause.TextRefused.{TextRefused}
use Rattle.text_parts.specs.declared.cause.TextRefused.TheVariants.{Bad, NoMemory}
use Rattle.script_text.specs.Grammar.{script_of}
use Rattle.trace_model.specs.declared.list.TraceList.{TraceList}
use Rattle.trace_reader.specs.Grammar.{trace_of}
use Rattle.trace_reader.specs.declared.cause.TraceRefused.{TraceRefused}
use Rattle.trace_reader.specs.declared.cause.TraceRefused.TheVariants.{Bad as BadTrace, NoMemory as NoTraceMemory}
use Rattle.call_parts.specs.Parts.{first_line, script_part, trace_part}
use Rattle.explain_call.specs.Explaining.{Explains, ExplainsBoth, ExplainsParts, ExplainsTrace, ExplainsWhole}

both : (n : ℕ) (part bytes : List ℕ) (script : Script) (trace : TraceList) → AreAnswers (ExplainsBoth n part bytes script trace)
both n part bytes script trace wanted text (inl h) = let small = of_verdict h.1.verdict in omega (arith, h.1.number, small)
both n part bytes script trace wanted text (inr h) = omega (arith, h.1)

of-trace : (n : ℕ) (part bytes : List ℕ) (script : Script) (meaning : Result TraceList TraceRefused) → AreAnswers (ExplainsTrace n part bytes script meaning)
of-trace n part bytes script (Ok trace) wanted text h = both n part bytes script trace wanted text h
of-trace n part bytes script (Err (BadTrace line cause)) wanted text h = omega (arith, h.0)
of-trace n part bytes script (Err NoTraceMemory) wanted text h = absurd h

of-parts : (n : ℕ) (part bytes : List ℕ) (script : Result Script TextRefused) (trace : Result TraceList TraceRefused) → AreAnswers (ExplainsParts n part bytes script trace)
of-parts n part bytes (Ok script) trace wanted text h = of-trace n part bytes script trace wanted text h
of-parts n part bytes (Err (Bad line cause)) trace wanted text h = omega (arith, h.0)
of-parts n part bytes (Err NoMemory) trace wanted text h = absurd h

pub are_explained : (input : List ℕ) → AreAnswers (Explains input)
are_explained input =
    of_limited refused_input ExplainsWhole input
    (of-parts (first_line input) (script_part input) (trace_part input) (script_of (script_part input)) (trace_of (first_line input) (trace_part input)))

pub long_refused : (input : List ℕ) → 134217728 < length input → Explains input 1 refused_input
long_refused input l = long_limited refused_input ExplainsWhole input l
