-- Bytes of numbers, and numbers of bytes.
use Rattle.std.proofs.Common.{◌≡◌, ℕ, zero, suc, ◌+◌, ◌*◌, ◌^◌, ◌<◌, List, [], ◌∷◌, ◌++◌, length, take, drop, get_or, refl, ap, sym, ◌∙◌, arith, rules, inl, inr}
use Rattle.std.specs.Prelude.{ℤ, FitsSigned}
use Rattle.std.specs.Int.{w32, w64, from_le_bytes, cast_signed, cast_unsigned}
use Rattle.std.specs.List.{flat_map, AllByRecursion}
use Rattle.std.proofs.Math.Facts.{sfits_to_z}
use Rattle.std.proofs.lemmas.Bool.{cases_lt}
use Rattle.std.proofs.lemmas.Int.{to_z-of_z, of_z-to_z}
use Rattle.std.proofs.lemmas.List.{take_at, drop_at, take-append-drop, length-take, length-drop, get_or-drop, get_or-take, get_or_past, nil_from_length}
use Rattle.std.proofs.lemmas.Nat.{le_bytes_4, le_bytes_8, from_le_bytes-to_le_bytes_4, from_le_bytes-to_le_bytes_8}
use Rattle.metadata.specs.Values.{pieces, int32_bytes, int64_bytes, ratio_bytes, int32_of, int64_of, ratio_of, RatioFits}

abbrev pub IsBytes : List ℕ → Type 0
IsBytes bytes = (i : ℕ) → get_or bytes i 0 < 256

pub IsBytes-drop : (n : ℕ) (bytes : List ℕ) → IsBytes bytes → IsBytes (drop n bytes)
IsBytes-drop n bytes h i = rw get_or-drop (h (n + i))

pub IsBytes-take : (n : ℕ) (bytes : List ℕ) → IsBytes bytes → IsBytes (take n bytes)
IsBytes-take n bytes h i =
    elim (cases_lt i n) [
      | inl lt ↦ rw (get_or-take n bytes i 0 lt) (h i)
      | inr le ↦ rw (get_or_past (take n bytes) i 0 (omega (arith, length-take n bytes))) (omega arith)
    ]

pub All-bytes : (bytes : List ℕ) → IsBytes bytes → AllByRecursion (λ b. b < 2 ^ 8) bytes
All-bytes [] h = tt
All-bytes (b ∷ bs) h = (h 0, All-bytes bs (λ i. h (suc i)))

-- ---- elements of one length

pub record IsElement {X : Type 0} (len : ℕ) (spell : X → List ℕ) (read : List ℕ → X) (Fits : X → Type 0) : Type 0 where
  pub spelled : (x : X) → length (spell x) ≡ len
  pub back : (bytes : List ℕ) → length bytes ≡ len → IsBytes bytes → spell (read bytes) ≡ bytes
  pub fits : (bytes : List ℕ) → length bytes ≡ len → IsBytes bytes → Fits (read bytes)
  pub again : (x : X) → Fits x → read (spell x) ≡ x

from_4 : (bytes : List ℕ) → IsBytes bytes → from_le_bytes w32 bytes < 2 ^ 32
from_4 bytes fits = omega (arith, fits 0, fits 1, fits 2, fits 3)

from_8 : (bytes : List ℕ) → IsBytes bytes → from_le_bytes w64 bytes < 2 ^ 64
from_8 bytes fits = omega (arith, fits 0, fits 1, fits 2, fits 3, fits 4, fits 5, fits 6, fits 7)

bits_4 : (z : ℤ) → FitsSigned w32 z → cast_unsigned w32 z < 2 ^ 32
bits_4 z fits = search rules

bits_8 : (z : ℤ) → FitsSigned w64 z → cast_unsigned w64 z < 2 ^ 64
bits_8 z fits = search rules

pub int32_element : IsElement 4 int32_bytes int32_of (FitsSigned w32)
int32_element = record {
  spelled = λ z. refl;
  back = λ bytes len fits. le_bytes_4 bytes _ len fits (of_z-to_z w32 (from_le_bytes w32 bytes) (from_4 bytes fits));
  fits = λ bytes len fits. sfits_to_z {w = w32} {n = from_le_bytes w32 bytes} (record { fits = from_4 bytes fits });
  again = λ z fits. ap (cast_signed w32) (from_le_bytes-to_le_bytes_4 (cast_unsigned w32 z) (bits_4 z fits)) ∙ to_z-of_z w32 z fits;
}

pub int64_element : IsElement 8 int64_bytes int64_of (FitsSigned w64)
int64_element = record {
  spelled = λ z. refl;
  back = λ bytes len fits. le_bytes_8 bytes _ len fits (of_z-to_z w64 (from_le_bytes w64 bytes) (from_8 bytes fits));
  fits = λ bytes len fits. sfits_to_z {w = w64} {n = from_le_bytes w64 bytes} (record { fits = from_8 bytes fits });
  again = λ z fits. ap (cast_signed w64) (from_le_bytes-to_le_bytes_8 (cast_unsigned w64 z) (bits_8 z fits)) ∙ to_z-of_z w64 z fits;
}

-- two elements one after the other
ratio_back : (bytes : List ℕ) → length bytes ≡ 8 → IsBytes bytes → ratio_bytes (ratio_of bytes) ≡ bytes
ratio_back bytes len fits =
    let low = int32_element.back (take 4 bytes) (omega (arith, length-take 4 bytes)) (IsBytes-take 4 bytes fits) in
    let high = int32_element.back (drop 4 bytes) (omega (arith, length-drop 4 bytes)) (IsBytes-drop 4 bytes fits) in
    ap (λ (xs : List ℕ). xs ++ int32_bytes (int32_of (drop 4 bytes))) low ∙ ap (λ (ys : List ℕ). take 4 bytes ++ ys) high ∙ take-append-drop 4 bytes

pub ratio_element : IsElement 8 ratio_bytes ratio_of RatioFits
ratio_element = record {
  spelled = λ r. refl;
  back = ratio_back;
  fits = λ bytes len fits. (int32_element.fits (take 4 bytes) (omega (arith, length-take 4 bytes)) (IsBytes-take 4 bytes fits), int32_element.fits (drop 4 bytes) (omega (arith, length-drop 4 bytes)) (IsBytes-drop 4 bytes fits));
  again = λ r fits. rw (int32_element.again r.numerator fits.0, int32_element.again r.denominator fits.1) refl;
}

-- ---- many elements

pub pieces_back : {X : Type 0} (len : ℕ) (spell : X → List ℕ) (read : List ℕ → X) (Fits : X → Type 0) → IsElement len spell read Fits → (n : ℕ) (bytes : List ℕ) → length bytes ≡ n * len → IsBytes bytes
    → (flat_map spell (pieces len read n bytes) ≡ bytes) × AllByRecursion Fits (pieces len read n bytes)
pieces_back len spell read Fits element zero bytes long fits = (sym (nil_from_length bytes (omega arith)), tt)
pieces_back len spell read Fits element (suc n) bytes long fits =
    let here : length (take len bytes) ≡ len = omega (arith, length-take len bytes) in
    let left : length (drop len bytes) ≡ n * len = omega (arith, length-drop len bytes) in
    let first = element.back (take len bytes) here (IsBytes-take len bytes fits) in
    let others = pieces_back len spell read Fits element n (drop len bytes) left (IsBytes-drop len bytes fits) in (
      ap (λ (xs : List ℕ). xs ++ flat_map spell (pieces len read n (drop len bytes))) first ∙ ap (λ (ys : List ℕ). take len bytes ++ ys) others.0 ∙ take-append-drop len bytes,
      (element.fits (take len bytes) here (IsBytes-take len bytes fits), others.1),
    )

pub pieces_again : {X : Type 0} (len : ℕ) (spell : X → List ℕ) (read : List ℕ → X) (Fits : X → Type 0) → IsElement len spell read Fits → (xs : List X) → AllByRecursion Fits xs
    → pieces len read (length xs) (flat_map spell xs) ≡ xs
pieces_again len spell read Fits element [] fits = refl
pieces_again len spell read Fits element (x ∷ xs) fits =
    let first = take_at (spell x) (flat_map spell xs) len (element.spelled x) in
    let others = drop_at (spell x) (flat_map spell xs) len (element.spelled x) in
    rw (first, others, element.again x fits.0, pieces_again len spell read Fits element xs fits.1) refl
