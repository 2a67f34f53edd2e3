-- What `hal` tells of an input.
use Rattle.std.proofs.Common.{◌≡◌, ◌≤◌, ◌<◌, ℕ, Bool, true, List, [], ◌∷◌, Result, Ok, Err, refl, arith, length, nat_lt}
use Rattle.std.proofs.lemmas.Bool.Decides.{nat_tests}
use Rattle.call_parts.specs.Answers.{AreAnswers}
use Rattle.hal_text.specs.Meaning.{log_of}
use Rattle.hal_lines.specs.declared.cause.Cause.TheVariants.{TooLong}
use Rattle.hal_text.specs.declared.log.HalLog.{HalLog}
use Rattle.hal_text.specs.declared.refused.LogRefused.{LogRefused}
use Rattle.hal_text.specs.declared.refused.LogRefused.TheVariants.{Bad, NoMemory}
use Rattle.hal_model.specs.declared.rule.Breach.{Breach}
use Rattle.hal_call.specs.Judging.{Judges, JudgesLog, breaches, refusal_text, report_status}
use Rattle.hal_call.specs.declared.form.Form.{Form}

too-long : (input : List ℕ) → 134217728 < length input → log_of input ≡ Err (Bad 0 TooLong)
unfolding log_of
too-long input l = let more : nat_lt 134217728 (length input) ≡ true = grind (arith, nat_tests) in rw more refl

-- the status that belongs to an input is 0 or 1
few : (found : List Breach) → report_status found ≤ 1
few [] = omega arith
few (b ∷ bs) = omega arith

of-log : (form : Form) (strict : Bool) (meaning : Result HalLog LogRefused) → AreAnswers (JudgesLog form strict meaning)
of-log form strict (Ok log) wanted text h = let small = few (breaches strict log) in omega (arith, h.0, small)
of-log form strict (Err (Bad line cause)) wanted text h = omega (arith, h.0)
of-log form strict (Err NoMemory) wanted text h = absurd h

pub are_judged : (form : Form) (strict : Bool) (input : List ℕ) → AreAnswers (Judges form strict input)
are_judged form strict input = of-log form strict (log_of input)

pub long_refused : (form : Form) (strict : Bool) (input : List ℕ) → 134217728 < length input → Judges form strict input 1 (refusal_text form 0 TooLong)
long_refused form strict input l = rw (too-long input l) (refl, refl)
