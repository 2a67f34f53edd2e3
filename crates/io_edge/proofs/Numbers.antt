-- How long numbers are.
use Rattle.std.proofs.Common.{◌≡◌, ℕ, ◌+◌, ◌/◌, ◌%◌, ◌<◌, ◌≤◌, ◌^◌, ◌∷◌, [], ◌++◌, length, ap, ◌∙◌, arith}
use Rattle.std.specs.Prelude.{decimal}
use Rattle.std.proofs.lemmas.Fmt.{decimal_digit, decimal_step, length-decimal-le}
use Rattle.std.proofs.lemmas.List.{length-append}

pub number_digit : (n : ℕ) → n < 10 → decimal n ≡ (48 + n % 10) ∷ []
number_digit n l = let e : n % 10 ≡ n = omega arith in rw e (decimal_digit n l)

pub number_more : (n : ℕ) → 10 ≤ n → n < 2 ^ 64 → decimal n ≡ decimal (n / 10) ++ (48 + n % 10) ∷ []
number_more n h l = decimal_step n h l

pub length_digit : (n : ℕ) → n < 10 → length (decimal n) ≡ 1
length_digit n l = ap length (number_digit n l)

pub length_more : (n : ℕ) → 10 ≤ n → n < 2 ^ 64 → length (decimal n) ≡ length (decimal (n / 10)) + 1
length_more n h l = ap length (number_more n h l) ∙ length-append (decimal (n / 10)) ((48 + n % 10) ∷ [])

pub length_small : (n : ℕ) → n < 2 ^ 32 → length (decimal n) ≤ 10
length_small n l = length-decimal-le 10 n (omega arith) (omega arith) (omega arith)

pub length_large : (n : ℕ) → n < 2 ^ 64 → length (decimal n) ≤ 20
length_large n l = length-decimal-le 20 n (omega arith) (omega arith) l
