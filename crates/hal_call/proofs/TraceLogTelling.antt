-- What `hal-of` tells of an input.
use Rattle.std.proofs.Common.{◌≡◌, ◌≤◌, ◌<◌, ◌∙◌, ℕ, true, List, Result, Ok, Err, refl, sym, arith, inl, inr, length, nat_lt}
use Rattle.std.proofs.lemmas.Bool.{false≢true}
use Rattle.std.proofs.lemmas.Bool.Decides.{nat_tests}
use Rattle.io_edge.specs.States.{SinkState}
use Rattle.cam_types.specs.declared.script.Script.{Script}
use Rattle.call_parts.specs.Answers.{AreAnswers, TellsBy}
use Rattle.text_parts.specs.declared.cause.TextRefused.{TextRefused}
use Rattle.text_parts.specs.declared.cause.TextRefused.TheVariants.{Bad, NoMemory}
use Rattle.script_text.specs.Grammar.{script_of}
use Rattle.trace_model.specs.declared.list.TraceList.{TraceList}
use Rattle.trace_reader.specs.Grammar.{trace_of}
use Rattle.trace_reader.specs.declared.cause.TraceRefused.{TraceRefused}
use Rattle.trace_reader.specs.declared.cause.TraceRefused.TheVariants as reading
use Rattle.trace_model.specs.declared.verdict.Verdict.{Verdict}
use Rattle.trace_model.specs.declared.verdict.Verdict.TheVariants.{Legal, IllegalAt, Incomplete}
use Rattle.trace_model.specs.Verdict.{IsVerdict}
use Rattle.call_parts.specs.Lines.{refused_trace_text, verdict_status}
use Rattle.call_parts.specs.Meaning.{JudgesParts, JudgesWhole}
use Rattle.call_parts.specs.Parts.{first_line, script_part, trace_part}
use Rattle.call_parts.specs.Profiles.{profile_of}
use Rattle.hal_call.specs.Shown.{HasNoLog, Shows}
use Rattle.hal_call.proofs.Inputs.{is_short}

-- a verdict on an input that has no hal log refuses it
verdict_refuses : (input : List ℕ) (script : Script) (trace : TraceList) (v : Verdict) (status : ℕ) → length input ≤ 134217728 → script_of (script_part input) ≡ Ok script → trace_of (first_line input) (trace_part input) ≡ Ok trace → profile_of trace ≡ script.profile → HasNoLog input → IsVerdict script trace.entries v → status ≡ verdict_status v → status ≡ 1
verdict_refuses input script trace Legal status l meaning read agrees none judged number =
    absurd (none script trace (record { short = is_short input l; meaning = meaning; read = read; agreeing = agrees; legal = judged.legal }))
verdict_refuses input script trace (IllegalAt p rule) status l meaning read agrees none judged number = number
verdict_refuses input script trace (Incomplete part) status l meaning read agrees none judged number = number

parts_refuse : (input : List ℕ) (s : Result Script TextRefused) (t : Result TraceList TraceRefused) (status : ℕ) (text : List ℕ) → length input ≤ 134217728 → script_of (script_part input) ≡ s → trace_of (first_line input) (trace_part input) ≡ t → HasNoLog input → JudgesParts (first_line input) s t status text → status ≡ 1
parts_refuse input (Err (Bad line cause)) t status text l meaning read none h = h.0
parts_refuse input (Err NoMemory) t status text l meaning read none h = absurd h
parts_refuse input (Ok script) (Err (reading.Bad line cause)) status text l meaning read none h = h.0
parts_refuse input (Ok script) (Err reading.NoMemory) status text l meaning read none h = absurd h
parts_refuse input (Ok script) (Ok trace) status text l meaning read none (inl h) = verdict_refuses input script trace h.1.verdict status l meaning read h.0 none h.1.judged h.1.number
parts_refuse input (Ok script) (Ok trace) status text l meaning read none (inr h) = h.1

-- what `check` says of an input that has no hal log is told
pub refusal_told : (input : List ℕ) (status : ℕ) (before after : SinkState) → length input ≤ 134217728 → HasNoLog input → TellsBy (JudgesWhole input) status before after → TellsBy (Shows input) status before after
refusal_told input status before after l none (inl h) = inl h
refusal_told input status before after l none (inr (wanted, text, judges, h)) =
    let refused = parts_refuse input (script_of (script_part input)) (trace_of (first_line input) (trace_part input)) wanted text l refl refl none judges in
    inr (wanted, text, inr (refused, none, inr (is_short input l, judges)), h)

-- the status that belongs to an input is 0 or 1
pub are_shown : (input : List ℕ) → AreAnswers (Shows input)
are_shown input wanted text (inl h) = omega (arith, h.0)
are_shown input wanted text (inr h) = omega (arith, h.0)

-- an input that is too long has no hal log
pub long_shown : (input : List ℕ) → 134217728 < length input → Shows input 1 (refused_trace_text 0 45)
long_shown input l =
    let more : nat_lt 134217728 (length input) ≡ true = grind (arith, nat_tests) in
    inr (refl, (λ script trace is. absurd (false≢true (sym is.short ∙ more))), inl (more, refl, refl))
