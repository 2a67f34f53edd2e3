-- Numbers in a range, by the numbers below a limit.
use Rattle.std.proofs.Common.{◌≡◌, ℕ, ◌+◌, ◌<◌, ◌≤◌, ◌^◌, Bool, true, ◌&&◌, cond, ltb, leb, List, Some, None, ap, arith}
use Rattle.std.specs.Prelude.{decimal}
use Rattle.std.specs.Str.Parse.{digits_value}
use Rattle.std.proofs.lemmas.Bool.{and_parts, ltb-true}
use Rattle.std.proofs.lemmas.Bool.Decides.{nat_tests}
use Rattle.basic_lemmas.proofs.Tests.{given-where}
use Rattle.text_parts.specs.Numbers.{is_number, number_below, number_within}
use Rattle.text_parts.proofs.Spelled.{number-is}

within-to : (here : Bool) (v least greatest n : ℕ) → cond (here && (leb least v && leb v greatest)) (Some v) None ≡ Some n → (cond (here && ltb v (greatest + 1)) (Some v) None ≡ Some n) × (leb least n ≡ true)
within-to here v least greatest n h =
    let p = given-where (here && (leb least v && leb v greatest)) v n h in
    let q = and_parts here (leb least v && leb v greatest) p.0 in
    let r = and_parts (leb least v) (leb v greatest) q.1 in
    let m : ltb v (greatest + 1) ≡ true = grind (arith, nat_tests) in
    (rw (q.0, m) (ap Some p.1), rw (← p.1) r.0)

-- what is read as a number is the number's spelling, and the number is in the range
pub number-within-is : (least greatest n : ℕ) (w : List ℕ) → greatest < 2 ^ 64 → number_within least greatest w ≡ Some n → (w ≡ decimal n) × (least ≤ n) × (n ≤ greatest)
unfolding number_within number_below
number-within-is least greatest n w l h =
    let p = within-to (is_number w) (digits_value 10 w) least greatest n h in
    let q = number-is (greatest + 1) n w (omega arith) p.0 in
    let small : n < greatest + 1 = ltb-true n (greatest + 1) q.1 in
    (q.0, grind (arith, nat_tests), omega arith)
