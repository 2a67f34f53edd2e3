-- Values and their payloads.
use Rattle.std.proofs.Common.{◌≡◌, ℕ, suc, ◌+◌, ◌*◌, Some, List, [], ◌∷◌, length, refl, ap, arith}
use Rattle.std.specs.List.{flat_map}
use Rattle.std.specs.Prelude.{FitsSigned}
use Rattle.std.specs.Int.{w32, w64}
use Rattle.std.proofs.lemmas.Bool.Decides.{nat_tests}
use Rattle.std.proofs.lemmas.List.{length-append}
use Rattle.metadata.specs.declared.element.ElementType.{ElementType}
use Rattle.metadata.specs.declared.element.ElementType.TheVariants as element
use Rattle.metadata.specs.declared.values.Values.{Values}
use Rattle.metadata.specs.declared.values.Values.TheVariants.{Bytes, Int32, Int64, Rational}
use Rattle.metadata.specs.Values.{type_number, type_numbered, count_of, type_of, element_len, payload, int32_bytes, int64_bytes, ratio_bytes, int32_of, int64_of, ratio_of, values_from, ValuesFit, RatioFits}
use Rattle.metadata.proofs.Bytes.{IsBytes, All-bytes, int32_element, int64_element, ratio_element, pieces_back, pieces_again}
use Rattle.metadata.proofs.Pieces.{length-pieces}

length-flat_map_same : {X : Type 0} (f : X → List ℕ) (k : ℕ) → ((x : X) → length (f x) ≡ k) → (xs : List X) → length xs * k ≡ length (flat_map f xs)
length-flat_map_same f k h [] = omega arith
length-flat_map_same f k h (x ∷ xs) =
    let ih = length-flat_map_same f k h xs in
    let here = h x in
    let step : suc (length xs) * k ≡ k + length xs * k = omega arith in
    omega (arith, length-append (f x) (flat_map f xs), ih, here, step)

pub length-payload : (v : Values) → count_of v * element_len (type_of v) ≡ length (payload v)
length-payload (Bytes bs) = omega arith
length-payload (Int32 ns) = length-flat_map_same int32_bytes 4 (λ z. refl) ns
length-payload (Int64 ns) = length-flat_map_same int64_bytes 8 (λ z. refl) ns
length-payload (Rational rs) = length-flat_map_same ratio_bytes 8 (λ r. refl) rs

-- what values are that were read
pub record AreFrom (t : ElementType) (count : ℕ) (bytes : List ℕ) (v : Values) : Type 0 where
  pub kind : type_of v ≡ t
  pub many : count_of v ≡ count
  pub spelled : payload v ≡ bytes
  pub fit : ValuesFit v

pub values_from-are : (t : ElementType) (count : ℕ) (bytes : List ℕ) → length bytes ≡ count * element_len t → IsBytes bytes → AreFrom t count bytes (values_from t count bytes)
values_from-are element.Byte count bytes len fits = record { kind = refl; many = omega arith; spelled = refl; fit = All-bytes bytes fits }
values_from-are element.Int32 count bytes len fits =
    let p = pieces_back 4 int32_bytes int32_of (FitsSigned w32) int32_element count bytes len fits in
    record { kind = refl; many = length-pieces 4 int32_of count bytes; spelled = p.0; fit = p.1 }
values_from-are element.Int64 count bytes len fits =
    let p = pieces_back 8 int64_bytes int64_of (FitsSigned w64) int64_element count bytes len fits in
    record { kind = refl; many = length-pieces 8 int64_of count bytes; spelled = p.0; fit = p.1 }
values_from-are element.Rational count bytes len fits =
    let p = pieces_back 8 ratio_bytes ratio_of RatioFits ratio_element count bytes len fits in
    record { kind = refl; many = length-pieces 8 ratio_of count bytes; spelled = p.0; fit = p.1 }

pub values_again : (v : Values) → ValuesFit v → values_from (type_of v) (count_of v) (payload v) ≡ v
values_again (Bytes bs) fit = refl
values_again (Int32 ns) fit = ap Int32 (pieces_again 4 int32_bytes int32_of (FitsSigned w32) int32_element ns fit)
values_again (Int64 ns) fit = ap Int64 (pieces_again 8 int64_bytes int64_of (FitsSigned w64) int64_element ns fit)
values_again (Rational rs) fit = ap Rational (pieces_again 8 ratio_bytes ratio_of RatioFits ratio_element rs fit)

pub numbered_again : (t : ElementType) → type_numbered (type_number t) ≡ Some t
numbered_again element.Byte = refl
numbered_again element.Int32 = refl
numbered_again element.Int64 = refl
numbered_again element.Rational = refl

-- a number that stands for a type is that type's
pub numbered : (n : ℕ) (t : ElementType) → type_numbered n ≡ Some t → n ≡ type_number t
numbered n element.Byte h = grind (arith, nat_tests)
numbered n element.Int32 h = grind (arith, nat_tests)
numbered n element.Int64 h = grind (arith, nat_tests)
numbered n element.Rational h = grind (arith, nat_tests)
