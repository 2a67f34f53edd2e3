-- What belongs to a text that is read.
use Rattle.std.proofs.Common.{◌≡◌, ◌≤◌, ◌<◌, ℕ, true, List, Result, Ok, Err, inl, inr, refl, arith, length, nat_lt}
use Rattle.std.proofs.lemmas.Bool.Decides.{nat_tests}
use Rattle.cam_types.specs.declared.script.Script.{Script}
use Rattle.text_parts.specs.declared.cause.Cause.{Cause}
use Rattle.text_parts.specs.declared.cause.TextRefused.{TextRefused}
use Rattle.text_parts.specs.declared.cause.TextRefused.TheVariants.{Bad, NoMemory}
use Rattle.script_text.specs.Grammar.{script_of}
use Rattle.call_parts.specs.Lines.{refused_script_text, verdict_status}
use Rattle.trace_model.specs.declared.verdict.Verdict.{Verdict}
use Rattle.trace_model.specs.declared.verdict.Verdict.TheVariants.{Legal, IllegalAt, Incomplete}
use Rattle.call_parts.specs.Answers.{AreAnswers}
use Rattle.call_parts.specs.Meanings.{OfLimited, OfMeaning, OfScript}
use Rattle.call_parts.proofs.Long.{too-long}

-- a refusal is an answer
pub of_meaning : {X : Type 0} (refusal : ℕ → Cause → List ℕ) (Belongs : X → ℕ → List ℕ → Type 0) (meaning : Result X TextRefused) → ((x : X) → AreAnswers (Belongs x)) → AreAnswers (OfMeaning refusal Belongs meaning)
of_meaning refusal Belongs (Ok x) answers wanted text h = answers x wanted text h
of_meaning refusal Belongs (Err (Bad line cause)) answers wanted text h = omega (arith, h.0)
of_meaning refusal Belongs (Err NoMemory) answers wanted text h = absurd h

pub of_script : (Belongs : Script → ℕ → List ℕ → Type 0) (input : List ℕ) → ((script : Script) → AreAnswers (Belongs script)) → AreAnswers (OfScript Belongs input)
of_script Belongs input answers = of_meaning _ Belongs (script_of input) answers

-- a script that is too long is refused
pub long_script : (Belongs : Script → ℕ → List ℕ → Type 0) (input : List ℕ) → 65536 < length input → OfScript Belongs input 1 (refused_script_text 0 37)
long_script Belongs input l = rw (too-long input l) (refl, refl)

pub of_limited : (refusal : List ℕ) (Belongs : List ℕ → ℕ → List ℕ → Type 0) (input : List ℕ) → AreAnswers (Belongs input) → AreAnswers (OfLimited refusal Belongs input)
of_limited refusal Belongs input answers wanted text (inl h) = omega (arith, h.1)
of_limited refusal Belongs input answers wanted text (inr h) = answers wanted text h.1

pub long_limited : (refusal : List ℕ) (Belongs : List ℕ → ℕ → List ℕ → Type 0) (input : List ℕ) → 134217728 < length input → OfLimited refusal Belongs input 1 refusal
long_limited refusal Belongs input l =
    let more : nat_lt 134217728 (length input) ≡ true = grind (arith, nat_tests) in inl (more, refl, refl)

-- so is a verdict
pub of_verdict : (verdict : Verdict) → verdict_status verdict ≤ 1
of_verdict Legal = omega arith
of_verdict (IllegalAt position rule) = omega arith
of_verdict (Incomplete part) = omega arith
