-- What belongs to an input that is read as a text of lines.
use Rattle.std.proofs.Common.{◌≡◌, ◌<◌, ℕ, true, List, Err, refl, arith, length, nat_lt}
use Rattle.std.proofs.lemmas.Bool.Decides.{nat_tests}
use Rattle.text_parts.specs.declared.cause.Cause.TheVariants.{Limit}
use Rattle.text_parts.specs.declared.cause.TextRefused.TheVariants.{Bad}
use Rattle.call_parts.specs.Answers.{AreAnswers}
use Rattle.call_parts.specs.Reading.{Grammar, OfText, refused_line, text_of}
use Rattle.call_parts.proofs.Meanings.{of_meaning}

pub of_text : {S X : Type 0} (grammar : Grammar S X) (IsTold : X → List ℕ → Type 0) (input : List ℕ) → AreAnswers (OfText grammar IsTold input)
of_text grammar IsTold input = of_meaning (refused_line grammar.name) _ (text_of grammar input) (λ x wanted told h. omega (arith, h.0))

-- a text that is too long is refused as such
too-long : {S X : Type 0} (grammar : Grammar S X) (input : List ℕ) → 65536 < length input → text_of grammar input ≡ Err (Bad 0 Limit)
unfolding text_of
too-long grammar input l = let more : nat_lt 65536 (length input) ≡ true = grind (arith, nat_tests) in rw more refl

pub long_text : {S X : Type 0} (grammar : Grammar S X) (IsTold : X → List ℕ → Type 0) (input : List ℕ) → 65536 < length input → OfText grammar IsTold input 1 (refused_line grammar.name 0 Limit)
long_text grammar IsTold input l = rw (too-long grammar input l) (refl, refl)
