-- What two values came from.
use Rattle.std.proofs.Common.{◌≡◌, Result, Ok, Err, ap}
use Rattle.hal_lines.specs.declared.cause.Cause.{Cause}
use Rattle.hal_lines.specs.Values.{◌>>=◌, both}

abbrev first : {A B : Type 0} → Result (A × B) Cause → Result A Cause
first r = r >>= λ p. Ok p.0

abbrev second : {A B : Type 0} → Result (A × B) Cause → Result B Cause
second r = r >>= λ p. Ok p.1

pub both_first : {A B : Type 0} (a : Result A Cause) (b : Result B Cause) (x : A) (y : B) → both a b ≡ Ok (x, y) → a ≡ Ok x
both_first (Ok a) (Ok b) x y h = ap first h
both_first (Ok a) (Err d) x y h = absurd (cc)
both_first (Err c) (Ok b) x y h = absurd (cc)
both_first (Err c) (Err d) x y h = absurd (cc)

pub both_second : {A B : Type 0} (a : Result A Cause) (b : Result B Cause) (x : A) (y : B) → both a b ≡ Ok (x, y) → b ≡ Ok y
both_second (Ok a) (Ok b) x y h = ap second h
both_second (Ok a) (Err d) x y h = absurd (cc)
both_second (Err c) (Ok b) x y h = absurd (cc)
both_second (Err c) (Err d) x y h = absurd (cc)
