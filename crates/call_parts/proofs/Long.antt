-- A text that is longer than a script may be.
use Rattle.std.proofs.Common.{◌≡◌, ℕ, ◌<◌, true, List, Err, refl, arith, length, nat_lt}
use Rattle.std.proofs.lemmas.Bool.Decides.{nat_tests}
use Rattle.script_text.specs.Grammar.{script_of}
use Rattle.text_parts.specs.declared.cause.Cause.TheVariants.{Limit}
use Rattle.text_parts.specs.declared.cause.TextRefused.TheVariants.{Bad}

-- a text that is too long is refused as such
pub too-long : (input : List ℕ) → 65536 < length input → script_of input ≡ Err (Bad 0 Limit)
unfolding script_of
too-long input l = let more : nat_lt 65536 (length input) ≡ true = grind (arith, nat_tests) in rw more refl
