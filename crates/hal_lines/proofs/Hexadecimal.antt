-- Hexadecimal numbers, digit by digit.
use Rattle.std.proofs.Common.{◌≡◌, ℕ, zero, suc, ◌+◌, ◌*◌, ◌<◌, ◌≤◌, ◌^◌, true, not, eqb, leb, List, [], ◌∷◌, length, get_or, take, refl, arith}
use Rattle.std.specs.Char.{digit_value}
use Rattle.std.specs.List.{list_all}
use Rattle.std.specs.Str.Parse.{digits_value}
use Rattle.std.proofs.Math.Nat.{pow-le-pow_right}
use Rattle.std.proofs.lemmas.Bool.{and_parts, and_from, false≢true, leb-true}
use Rattle.std.proofs.lemmas.Grind.{pow_more}
use Rattle.std.proofs.lemmas.Int.Digits.{digits_value_more}
use Rattle.hal_lines.specs.Values.{is_hexadecimal, is_hexadecimal_number}

pub hexadecimal-facts : (w : List ℕ) → is_hexadecimal_number w ≡ true → (length w ≤ 8) × (list_all is_hexadecimal w ≡ true)
hexadecimal-facts [] h = absurd (false≢true h)
hexadecimal-facts (d ∷ []) h = (omega arith, and_from _ _ h refl)
hexadecimal-facts (d ∷ e ∷ ds) h =
    let p = and_parts (not (eqb d 48)) _ h in
    let q = and_parts (leb (length (d ∷ e ∷ ds)) 8) (list_all is_hexadecimal (d ∷ e ∷ ds)) p.1 in
    (leb-true _ _ q.0, q.1)

pub digit-at : (w : List ℕ) (i : ℕ) → i < length w → list_all is_hexadecimal w ≡ true → is_hexadecimal (get_or w i 0) ≡ true
digit-at [] i l h = absurd (omega arith)
digit-at (d ∷ ds) zero l h = (and_parts (is_hexadecimal d) (list_all is_hexadecimal ds) h).0
digit-at (d ∷ ds) (suc i) l h = digit-at ds i (omega arith) (and_parts (is_hexadecimal d) (list_all is_hexadecimal ds) h).1

pub room : (value i : ℕ) → value < 16 ^ i → i < 8 → value * 16 + 15 < 4294967296
room value i v l =
    let p : 16 ^ i ≤ 268435456 = pow-le-pow_right {n = 16} (omega arith) {i = i} {j = 7} (omega arith) in
    omega (arith, v, p)

pub value-more : (w : List ℕ) (i value digit : ℕ) → i < length w → value ≡ digits_value 16 (take i w) → digit ≡ digit_value (get_or w i 0) → value * 16 + digit ≡ digits_value 16 (take (i + 1) w)
value-more w i value digit l v d = omega (arith, digits_value_more 16 w i l, v, d)

pub small-more : (value i digit : ℕ) → value < 16 ^ i → digit < 16 → value * 16 + digit < 16 ^ (i + 1)
small-more value i digit v d = omega (arith, pow_more 16 i, v, d)
