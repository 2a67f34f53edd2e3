-- What a hexadecimal number spells is that number.
use Rattle.std.proofs.Common.{◌≡◌, ℕ, zero, suc, ◌+◌, ◌*◌, ◌/◌, ◌%◌, ◌<◌, ◌≤◌, ◌^◌, Bool, true, false, eqb, List, [], ◌∷◌, length, get_or, Ok, refl, ap, ◌∙◌, inl, inr, arith}
use Rattle.std.specs.Char.{digit_value}
use Rattle.std.specs.Fmt.{digit_glyph, digits, digits_onto}
use Rattle.std.specs.List.{list_all}
use Rattle.std.specs.Str.Parse.{digits_value, digits_value_after}
use Rattle.std.proofs.lemmas.Bool.{and_parts, and_from, cases_Bool, cases_eq, eqb-true, le-leb}
use Rattle.std.proofs.lemmas.Bool.Decides.{nat_tests}
use Rattle.hal_lines.specs.Values.{hexadecimal, is_hexadecimal, is_hexadecimal_number}

glyph-value : (d : ℕ) → d < 16 → digit_value (digit_glyph true d) ≡ d
glyph-value d l = grind (arith, nat_tests)

glyph-is : (d : ℕ) → d < 16 → is_hexadecimal (digit_glyph true d) ≡ true
glyph-is d l = grind (arith, nat_tests)

glyph-some : (d : ℕ) → d < 16 → 0 < d → eqb (digit_glyph true d) 48 ≡ false
glyph-some d l s = grind (arith, nat_tests)

onto-value : (k n : ℕ) (acc : List ℕ) → n < 16 ^ k → digits_value_after 16 0 (digits_onto k 16 true n acc) ≡ digits_value_after 16 n acc
onto-value zero n acc l = let e : 0 ≡ n = omega (arith, l) in ap (λ m. digits_value_after 16 m acc) e
onto-value (suc k) n acc l = elim (cases_Bool (eqb (n / 16) 0)) [
  | inl t ↦
      let z = eqb-true (n / 16) 0 t in
      let e : 0 * 16 + digit_value (digit_glyph true (n % 16)) ≡ n = omega (arith, z, glyph-value (n % 16) (omega arith)) in
      rw t (ap (λ m. digits_value_after 16 m acc) e)
  | inr f ↦
      let less : n / 16 < 16 ^ k = omega (arith, l) in
      let e : n / 16 * 16 + digit_value (digit_glyph true (n % 16)) ≡ n = omega (arith, glyph-value (n % 16) (omega arith)) in
      rw f (onto-value k (n / 16) (digit_glyph true (n % 16) ∷ acc) less ∙ ap (λ m. digits_value_after 16 m acc) e)
]

pub onto-all : (p : ℕ → Bool) → ((d : ℕ) → d < 16 → p (digit_glyph true d) ≡ true) → (k n : ℕ) (acc : List ℕ) → list_all p acc ≡ true → list_all p (digits_onto k 16 true n acc) ≡ true
onto-all p each zero n acc h = h
onto-all p each (suc k) n acc h =
    let more : list_all p (digit_glyph true (n % 16) ∷ acc) ≡ true = and_from _ _ (each (n % 16) (omega arith)) h in
    elim (cases_Bool (eqb (n / 16) 0)) [
      | inl t ↦ rw t more
      | inr f ↦ rw f (onto-all p each k (n / 16) (digit_glyph true (n % 16) ∷ acc) more)
    ]

onto-longer : (k n : ℕ) (acc : List ℕ) → length acc ≤ length (digits_onto k 16 true n acc)
onto-longer zero n acc = omega arith
onto-longer (suc k) n acc = elim (cases_Bool (eqb (n / 16) 0)) [
  | inl t ↦ rw t (omega arith)
  | inr f ↦ rw f (omega (arith, onto-longer k (n / 16) (digit_glyph true (n % 16) ∷ acc)))
]

onto-some : (k n : ℕ) → 0 < length (digits_onto (suc k) 16 true n [])
onto-some k n = elim (cases_Bool (eqb (n / 16) 0)) [
  | inl t ↦ rw t (omega arith)
  | inr f ↦ rw f (omega (arith, onto-longer k (n / 16) (digit_glyph true (n % 16) ∷ [])))
]

onto-short : (k j n : ℕ) (acc : List ℕ) → n < 16 ^ (suc j) → length (digits_onto k 16 true n acc) ≤ suc j + length acc
onto-short zero j n acc l = omega arith
onto-short (suc k) zero n acc l = elim (cases_Bool (eqb (n / 16) 0)) [
  | inl t ↦ rw t (omega arith)
  | inr f ↦ absurd (let z : n / 16 ≡ 0 = omega (arith, l) in let k = rw z at f in cc)
]
onto-short (suc k) (suc j) n acc l = elim (cases_Bool (eqb (n / 16) 0)) [
  | inl t ↦ rw t (omega arith)
  | inr f ↦ rw f (omega (arith, onto-short k j (n / 16) (digit_glyph true (n % 16) ∷ acc) (omega (arith, l))))
]

onto-first : (k n : ℕ) (acc : List ℕ) → n < 16 ^ k → 0 < n → eqb (get_or (digits_onto k 16 true n acc) 0 0) 48 ≡ false
onto-first zero n acc l s = absurd (omega (arith, l, s))
onto-first (suc k) n acc l s = elim (cases_Bool (eqb (n / 16) 0)) [
  | inl t ↦
      let z = eqb-true (n / 16) 0 t in
      rw t (glyph-some (n % 16) (omega arith) (omega (arith, z, s)))
  | inr f ↦ rw f (onto-first k (n / 16) (digit_glyph true (n % 16) ∷ acc) (omega (arith, l)) (elim (cases_eq (n / 16) 0) [
    | inl e ↦ absurd (let k = rw e at f in cc)
    | inr ne ↦ omega (arith, ne)
  ]))
]

number-from : (w : List ℕ) → list_all is_hexadecimal w ≡ true → length w ≤ 8 → 0 < length w → eqb (get_or w 0 0) 48 ≡ false → is_hexadecimal_number w ≡ true
number-from [] h l s f = absurd (omega arith)
number-from (d ∷ []) h l s f = (and_parts (is_hexadecimal d) true h).0
number-from (d ∷ e ∷ ds) h l s f = rw (f, le-leb _ _ l, h) refl

is-number : (n : ℕ) → 0 < n → n < 2 ^ 32 → is_hexadecimal_number (digits 16 true n) ≡ true
unfolding digits
is-number n s l =
    let w : n < 16 ^ 64 = omega (arith, l) in
    number-from (digits_onto 64 16 true n []) (onto-all is_hexadecimal glyph-is 64 n [] refl) (onto-short 64 7 n [] (omega (arith, l))) (onto-some 63 n) (onto-first 64 n [] w s)

digits-value : (n : ℕ) → n < 2 ^ 32 → digits_value 16 (digits 16 true n) ≡ n
unfolding digits
digits-value n l = onto-value 64 n [] (omega (arith, l))

pub hexadecimal-again : (n : ℕ) → n < 2 ^ 32 → hexadecimal (digits 16 true n) ≡ Ok n
unfolding hexadecimal digits
hexadecimal-again zero l = refl
hexadecimal-again (suc n) l = rw (is-number (suc n) (omega arith) l, digits-value (suc n) l) refl

pub hexadecimal-all : (p : ℕ → Bool) → ((d : ℕ) → d < 16 → p (digit_glyph true d) ≡ true) → (n : ℕ) → list_all p (digits 16 true n) ≡ true
unfolding digits
hexadecimal-all p each n = onto-all p each 64 n [] refl
