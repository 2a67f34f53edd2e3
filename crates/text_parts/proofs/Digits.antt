-- Numbers by their digits.
use Rattle.std.proofs.Common.{◌≡◌, ℕ, zero, suc, ◌+◌, ◌-◌, ◌*◌, ◌<◌, ◌≤◌, true, false, ◌&&◌, cond, ltb, List, [], ◌∷◌, length, get_or, take, Option, None, Some, refl, ap, ◌∙◌, inl, inr, arith, add-one}
use Rattle.std.proofs.lemmas.Bool.{and_right, and_parts, and_from, le-ltb, cases_Bool}
use Rattle.std.proofs.lemmas.Bool.Decides.{nat_tests}
use Rattle.std.proofs.lemmas.Int.Digits.{digits_value_more}
use Rattle.std.proofs.lemmas.Str.Parse.{digits_value-take-le}
use Rattle.std.specs.Char.{is_ascii_digit, digit_value}
use Rattle.std.specs.Str.{all_ascii_digits}
use Rattle.std.specs.Str.Parse.{digits_value}

-- a byte that isn't a digit
pub not_digits : (ds : List ℕ) (i : ℕ) → i < length ds → is_ascii_digit (get_or ds i 0) ≡ false → all_ascii_digits ds ≡ false
not_digits [] i l h = absurd (omega arith)
not_digits (d ∷ ds) zero l h = rw h refl
not_digits (d ∷ ds) (suc i) l h = let ih = not_digits ds i (omega arith) h in grind arith

-- one more digit
pub digits-more : (ds : List ℕ) (i : ℕ) → i < length ds → all_ascii_digits (take i ds) ≡ true → is_ascii_digit (get_or ds i 0) ≡ true → all_ascii_digits (take (suc i) ds) ≡ true
digits-more [] i l h d = absurd (omega arith)
digits-more (e ∷ ds) zero l h d = rw d refl
digits-more (e ∷ ds) (suc i) l h d =
    let p = and_parts (is_ascii_digit e) (all_ascii_digits (take i ds)) h in
    and_from _ _ p.0 (digits-more ds i (omega arith) p.1 d)

digit-is : (d : ℕ) → is_ascii_digit d ≡ true → digit_value d ≡ d - 48
digit-is d h = grind (arith, nat_tests)

pub value-more : (ds : List ℕ) (i : ℕ) → i < length ds → is_ascii_digit (get_or ds i 0) ≡ true → digits_value 10 (take (i + 1) ds) ≡ digits_value 10 (take i ds) * 10 + (get_or ds i 0 - 48)
value-more ds i l d = digits_value_more 10 ds i l ∙ ap (λ n. digits_value 10 (take i ds) * 10 + n) (digit-is (get_or ds i 0) d)

-- a front that is too large
pub too_large : (ds : List ℕ) (i limit : ℕ) → limit ≤ digits_value 10 (take i ds) → ltb (digits_value 10 ds) limit ≡ false
too_large ds i limit h = le-ltb _ _ (omega (arith, digits_value-take-le 10 ds i (omega arith)))

abbrev pub below : ℕ → ℕ → Option ℕ
below value limit = cond (ltb value limit) (Some value) None

abbrev pub digits_below : List ℕ → ℕ → Option ℕ
digits_below ds limit = cond (all_ascii_digits ds && ltb (digits_value 10 ds) limit) (Some (digits_value 10 ds)) None

below-none : (value limit : ℕ) → below value limit ≡ None → limit ≤ value
below-none value limit h = elim (cases_Bool (ltb value limit)) [
  | inl t ↦ absurd (let k = rw t at h in cc)
  | inr f ↦ grind (arith, nat_tests)
]

below-some : (value limit next : ℕ) → below value limit ≡ Some next → (next ≡ value) × (next < limit)
below-some value limit next h = elim (cases_Bool (ltb value limit)) [
  | inl t ↦ (let k : Some value ≡ Some next = rw t at h in let e : next ≡ value = cc in (e, grind (arith, nat_tests)))
  | inr f ↦ absurd (let k = rw f at h in cc)
]

-- what a loop over digits answers at a byte that isn't one, and at a digit that is too many
pub no_digit : (ds : List ℕ) (i limit : ℕ) → i < length ds → is_ascii_digit (get_or ds i 0) ≡ false → digits_below ds limit ≡ None
no_digit ds i limit l d = rw (not_digits ds i l d) refl

pub one_too_many : (ds : List ℕ) (i limit value : ℕ) → i < length ds → is_ascii_digit (get_or ds i 0) ≡ true → value ≡ digits_value 10 (take i ds) → below (value * 10 + (get_or ds i 0 - 48)) limit ≡ None → digits_below ds limit ≡ None
one_too_many ds i limit value l d e h =
    let large = below-none _ _ h in
    let more = value-more ds i l d in
    let past = too_large ds (i + 1) limit (omega (arith, more, e, large)) in
    rw (and_right (all_ascii_digits ds) _ past) refl

pub one_more : (ds : List ℕ) (i limit value next : ℕ) → i < length ds → is_ascii_digit (get_or ds i 0) ≡ true → (all_ascii_digits (take i ds) ≡ true) × (value ≡ digits_value 10 (take i ds)) × (value < limit) → below (value * 10 + (get_or ds i 0 - 48)) limit ≡ Some next
    → (all_ascii_digits (take (i + 1) ds) ≡ true) × (next ≡ digits_value 10 (take (i + 1) ds)) × (next < limit)
one_more ds i limit value next l d so_far h =
    let some = below-some _ _ _ h in
    let more = value-more ds i l d in
    (rw add-one (digits-more ds i l so_far.0 d), omega (arith, some.0, more, so_far.1), some.1)
