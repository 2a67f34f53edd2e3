-- Hexadecimal text in lower case that is read is the spelling of its bytes.
use Rattle.std.proofs.Common.{◌≡◌, ℕ, zero, suc, ◌+◌, ◌*◌, ◌/◌, ◌%◌, ◌<◌, Bool, true, ◌&&◌, not, eqb, List, [], ◌∷◌, Option, None, Some, Result, Ok, Err, refl, sym, ap, ◌∙◌, inl, inr, arith}
use Rattle.std.specs.Prelude.{◌||◌, slice_index, unwrap_or}
use Rattle.std.specs.List.{list_all}
use Rattle.std.proofs.lemmas.Bool.{cases_lt, and_parts, eqb-true}
use Rattle.std.proofs.lemmas.Bool.Decides.{nat_tests}
use Rattle.hex.specs.Hex.{◌>>=◌, IsBytes, decode_of, decode_pairs, pair_value, value_at, digit_or_error, hex_digit_value, encode_lower, encode_with, lower_digits}
use Rattle.hex.specs.declared.error.FromHexError.{FromHexError}
use Rattle.hex.proofs.HexLemmas.{decode_of-ok, decode_of-even}
use Rattle.trace_reader.specs.Values.{is_lower_digit}

bind-ok : {A B : Type 0} (r : Result A FromHexError) (f : A → Result B FromHexError) (y : B) → (r >>= f) ≡ Ok y → (x : A) × (r ≡ Ok x) × (f x ≡ Ok y)
bind-ok (Ok x) f y h = (x, refl, h)
bind-ok (Err c) f y h = absurd (cc)

-- the digit at each lower digit's value is that digit
abbrev is_back : ℕ → Bool
is_back a = not (is_lower_digit a) || eqb (slice_index lower_digits (unwrap_or (hex_digit_value a) 99)) a

abbrev all_back : ℕ → Bool
all_back zero = true
all_back (suc n) = is_back n && all_back n

all_back-at : (n k : ℕ) → all_back n ≡ true → k < n → is_back k ≡ true
all_back-at zero k h l = absurd (omega arith)
all_back-at (suc n) k h l =
    let p = and_parts (is_back n) (all_back n) h in
    elim (cases_lt k n) [
      | inl below ↦ all_back-at n k p.1 below
      | inr top ↦ (let e : k ≡ n = omega arith in rw e p.0)
    ]

lower-small : (a : ℕ) → is_lower_digit a ≡ true → a < 103
lower-small a h = grind (arith, nat_tests)

lower-back : (a v : ℕ) → is_lower_digit a ≡ true → hex_digit_value a ≡ Some v → slice_index lower_digits v ≡ a
lower-back a v h e =
    let t = all_back-at 103 a refl (lower-small a h) in
    let u = rw (h, e) at t in
    eqb-true (slice_index lower_digits v) a u

digit-some : (c i v : ℕ) (o : Option ℕ) → digit_or_error c i o ≡ Ok v → o ≡ Some v
digit-some c i v (Some w) h = let e : w ≡ v = cc in ap Some e
digit-some c i v None h = absurd (cc)

value-small : (c v : ℕ) → hex_digit_value c ≡ Some v → v < 16
value-small c v h = grind (arith)

pairs-are : (i : ℕ) (w bytes : List ℕ) → list_all is_lower_digit w ≡ true → decode_pairs i w ≡ Ok bytes → w ≡ encode_lower bytes
unfolding decode_pairs encode_with
pairs-are i [] bytes l h = let e : [] ≡ bytes = cc in rw (← e) refl
pairs-are i (a ∷ []) bytes l h = absurd (cc)
pairs-are i (a ∷ b ∷ rest) bytes l h =
    let la = and_parts (is_lower_digit a) (list_all is_lower_digit (b ∷ rest)) l in
    let lb = and_parts (is_lower_digit b) (list_all is_lower_digit rest) la.1 in
    let p0 = bind-ok (pair_value a b i) _ bytes h in
    let p1 = bind-ok (value_at a i) _ p0.0 p0.1 in
    let p2 = bind-ok (value_at b (i + 1)) _ p0.0 p1.2 in
    let p3 = bind-ok (decode_pairs (i + 2) rest) _ bytes p0.2 in
    let va = digit-some a i p1.0 (hex_digit_value a) p1.1 in
    let vb = digit-some b (i + 1) p2.0 (hex_digit_value b) p2.1 in
    let sa = value-small a p1.0 va in
    let sb = value-small b p2.0 vb in
    let ba = lower-back a p1.0 la.0 va in
    let bb = lower-back b p2.0 lb.0 vb in
    let ih = pairs-are (i + 2) rest p3.0 lb.1 p3.1 in
    let byte : p1.0 * 16 + p2.0 ≡ p0.0 = cc in
    let high : p0.0 / 16 ≡ p1.0 = omega arith in
    let low : p0.0 % 16 ≡ p2.0 = omega arith in
    let whole : p0.0 ∷ p3.0 ≡ bytes = cc in
    rw (← whole, high, low, ba, bb, ← ih) refl

pub hex-are : (w bytes : List ℕ) → list_all is_lower_digit w ≡ true → decode_of w ≡ Ok bytes → (w ≡ encode_lower bytes) × IsBytes bytes
hex-are w bytes l h =
    let ok = decode_of-ok w bytes h in
    (pairs-are 0 w bytes l (sym (decode_of-even w ok.0) ∙ h), ok.3)
