-- What a number spells is that number, and what is read as a number is its spelling.
use Rattle.std.proofs.Common.{◌≡◌, ℕ, zero, suc, ◌<◌, ◌≤◌, ◌^◌, true, false, ◌&&◌, not, eqb, leb, ltb, List, [], ◌∷◌, ◌++◌, length, get_or, Some, refl, sym, ap, ◌∙◌, inl, inr, arith}
use Rattle.std.specs.Prelude.{decimal, bytes_eq}
use Rattle.std.specs.List.{flat_map, list_all}
use Rattle.std.specs.Char.{is_ascii_digit}
use Rattle.std.specs.Str.{all_ascii_digits}
use Rattle.std.specs.Str.Parse.{digits_value}
use Rattle.std.proofs.lemmas.Bool.{cases_eq, cases_Bool, and_parts, and_from, le-leb, lt-ltb, ltb-true, not-true, false≢true}
use Rattle.std.proofs.lemmas.Bool.Decides.{nat_tests}
use Rattle.std.proofs.lemmas.Fmt.{decimal_nonempty, decimal_digit, first_decimal, digits_decimal, digits_value-decimal, decimal-digits_value}
use Rattle.std.proofs.lemmas.Str.Parse.{IsNumeralModel, numerals_by_value, tells_all_ascii_digits}
use Rattle.text_parts.specs.Numbers.{is_number, number_below, number_within}
use Rattle.text_parts.specs.Words.{is_plain, is_word}
use Rattle.basic_lemmas.proofs.Lists.{all-where}
use Rattle.text_parts.proofs.Joined.{avoids, avoids-append, plain-append, word-from}

own : IsNumeralModel (λ ds. all_ascii_digits ds ≡ true) (digits_value 10)
own = numerals_by_value (λ ds. all_ascii_digits ds ≡ true) tells_all_ascii_digits

pub decimal-digits : (n : ℕ) → n < 2 ^ 64 → all_ascii_digits (decimal n) ≡ true
decimal-digits n l = digits_decimal own n l

number-from-digits : (ds : List ℕ) → all_ascii_digits ds ≡ true → 48 < get_or ds 0 0 → is_number ds ≡ true
number-from-digits [] h f = absurd (omega arith)
number-from-digits (d ∷ []) h f = (and_parts (is_ascii_digit d) true h).0
number-from-digits (d ∷ e ∷ ds) h f = let ne : eqb d 48 ≡ false = grind (arith, nat_tests) in rw ne h

pub decimal-is-number : (n : ℕ) → n < 2 ^ 64 → is_number (decimal n) ≡ true
decimal-is-number zero l = ap is_number (decimal_digit 0 (omega arith))
decimal-is-number (suc n) l = number-from-digits (decimal (suc n)) (decimal-digits (suc n) l) (first_decimal (suc n) (omega arith) l)

-- a number's spelling is that number's
pub number-again : (limit n : ℕ) → n < limit → limit ≤ 2 ^ 64 → number_below limit (decimal n) ≡ Some n
unfolding number_below
number-again limit n l w =
    let small : n < 2 ^ 64 = omega arith in
    rw (decimal-is-number n small, digits_value-decimal own n small, lt-ltb n limit l) refl

pub within-again : (least greatest n : ℕ) → least ≤ n → n ≤ greatest → greatest < 2 ^ 64 → number_within least greatest (decimal n) ≡ Some n
unfolding number_within
within-again least greatest n l g w =
    let small : n < 2 ^ 64 = omega arith in
    rw (decimal-is-number n small, digits_value-decimal own n small, le-leb least n l, le-leb n greatest g) refl

pub number-within : (least greatest : ℕ) (w : List ℕ) (n : ℕ) → number_within least greatest w ≡ Some n → (leb least n ≡ true) × (leb n greatest ≡ true)
unfolding number_within
number-within least greatest w n h = grind arith

-- ---- and back

numeral-is : (w : List ℕ) → is_number w ≡ true → (all_ascii_digits w ≡ true) × (0 < length w) × (get_or w 0 0 ≡ 48 → length w ≡ 1)
numeral-is [] h = absurd (false≢true h)
numeral-is (d ∷ []) h = (rw h refl, omega arith, λ z. refl)
numeral-is (d ∷ e ∷ ds) h =
    let p = and_parts (not (eqb d 48)) (all_ascii_digits (d ∷ e ∷ ds)) h in
    (p.1, omega arith, λ z. absurd (let q = p.0 in let r = rw z at q in false≢true r))

-- what is read as a number is the number's spelling, and the number is below the limit
pub number-is : (limit n : ℕ) (w : List ℕ) → limit ≤ 2 ^ 64 → number_below limit w ≡ Some n → (w ≡ decimal n) × (ltb n limit ≡ true)
unfolding number_below
number-is limit n w l h = elim (cases_Bool (is_number w && ltb (digits_value 10 w) limit)) [
  | inl t ↦
      let p = and_parts (is_number w) (ltb (digits_value 10 w) limit) t in
      let k = rw t at h in
      let e : digits_value 10 w ≡ n = cc in
      let d = numeral-is w p.0 in
      let v = ltb-true (digits_value 10 w) limit p.1 in
      let s = decimal-digits_value own w d.0 d.1 d.2 (omega arith) in
      (sym s ∙ ap decimal e, rw (← e) p.1)
  | inr f ↦ absurd (let k = rw f at h in cc)
]

pub number-below : (limit : ℕ) (w : List ℕ) (n : ℕ) → number_below limit w ≡ Some n → ltb n limit ≡ true
unfolding number_below
number-below limit w n h = grind arith

-- ---- the bytes of a number

pub digit-other : (c : ℕ) → is_ascii_digit c ≡ false → (b : ℕ) → is_ascii_digit b ≡ true → not (eqb b c) ≡ true
digit-other c h b d = elim (cases_eq b c) [
  | inl e ↦ absurd (let k = rw e at d in cc)
  | inr n ↦ grind (arith, nat_tests)
]

digits-are-all : (ds : List ℕ) → all_ascii_digits ds ≡ true → list_all is_ascii_digit ds ≡ true
digits-are-all [] h = refl
digits-are-all (d ∷ ds) h = let p = and_parts (is_ascii_digit d) (all_ascii_digits ds) h in and_from _ _ p.0 (digits-are-all ds p.1)

-- a number has digits alone
pub number-avoids : (c n : ℕ) → is_ascii_digit c ≡ false → n < 2 ^ 64 → avoids c (decimal n) ≡ true
number-avoids c n h l = all-where is_ascii_digit (λ b. not (eqb b c)) (decimal n) (digit-other c h) (digits-are-all (decimal n) (decimal-digits n l))

digit-plain : (b : ℕ) → is_ascii_digit b ≡ true → is_plain b ≡ true
digit-plain b h = grind (arith, nat_tests)

pub number-plain : (n : ℕ) → n < 2 ^ 64 → list_all is_plain (decimal n) ≡ true
number-plain n l = all-where is_ascii_digit is_plain (decimal n) digit-plain (digits-are-all (decimal n) (decimal-digits n l))

pub number-word : (n : ℕ) → n < 2 ^ 64 → is_word (decimal n) ≡ true
number-word n l = word-from (decimal n) (number-plain n l) (decimal_nonempty n l)

-- a text that begins with a digit is no word that begins with another byte
digit-first : (ds rest : List ℕ) (c : ℕ) (cs : List ℕ) → all_ascii_digits ds ≡ true → 0 < length ds → is_ascii_digit c ≡ false → bytes_eq (ds ++ rest) (c ∷ cs) ≡ false
digit-first [] rest c cs h l d = absurd (omega arith)
digit-first (b ∷ ds) rest c cs h l d =
    let p = and_parts (is_ascii_digit b) (all_ascii_digits ds) h in
    rw (not-true (eqb b c) (digit-other c d b p.0)) refl

pub number-first : (n : ℕ) (rest : List ℕ) (c : ℕ) (cs : List ℕ) → n < 2 ^ 64 → is_ascii_digit c ≡ false → bytes_eq (decimal n ++ rest) (c ∷ cs) ≡ false
number-first n rest c cs l d = digit-first (decimal n) rest c cs (decimal-digits n l) (decimal_nonempty n l) d

-- numbers, each behind a byte
pub more-avoid : (c s : ℕ) (ns : List ℕ) → eqb s c ≡ false → list_all (λ n. avoids c (decimal n)) ns ≡ true → avoids c (flat_map (λ n. s ∷ decimal n) ns) ≡ true
more-avoid c s [] e h = refl
more-avoid c s (n ∷ ns) e h =
    let p = and_parts (avoids c (decimal n)) (list_all (λ m. avoids c (decimal m)) ns) h in
    avoids-append c (s ∷ decimal n) (flat_map (λ m. s ∷ decimal m) ns) (rw e p.0) (more-avoid c s ns e p.1)

pub more-plain : (s : ℕ) (ns : List ℕ) → is_plain s ≡ true → list_all (λ n. list_all is_plain (decimal n)) ns ≡ true → list_all is_plain (flat_map (λ n. s ∷ decimal n) ns) ≡ true
more-plain s [] e h = refl
more-plain s (n ∷ ns) e h =
    let p = and_parts (list_all is_plain (decimal n)) (list_all (λ m. list_all is_plain (decimal m)) ns) h in
    plain-append (s ∷ decimal n) (flat_map (λ m. s ∷ decimal m) ns) (and_from _ _ e p.0) (more-plain s ns e p.1)
