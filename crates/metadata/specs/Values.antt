-- The values of an entry: their types, and their bytes. Type numbers and sizes are those of Android's camera metadata
-- (TYPE_BYTE, TYPE_INT32, TYPE_INT64, TYPE_RATIONAL); numbers are little-endian, signed ones in two's complement.
use Rattle.std.specs.Prelude.{ℕ, ◌<◌, ◌^◌, ◌==◌, if◌then◌else◌, zero, suc, List, [], ◌∷◌, ◌++◌, length, take, drop, Option, Some, None, ℤ, FitsSigned}
use Rattle.std.specs.List.{flat_map, AllByRecursion}
use Rattle.std.specs.Int.{w32, w64, to_le_bytes, from_le_bytes, cast_signed, cast_unsigned}
use Rattle.metadata.specs.declared.element.ElementType.{ElementType}
use Rattle.metadata.specs.declared.element.ElementType.TheVariants as element
use Rattle.metadata.specs.declared.values.Ratio.{Ratio}
use Rattle.metadata.specs.declared.values.Values.{Values}
use Rattle.metadata.specs.declared.values.Values.TheVariants.{Bytes, Int32, Int64, Rational}

abbrev pub type_number : ElementType → ℕ
type_number element.Byte = 0
type_number element.Int32 = 1
type_number element.Int64 = 3
type_number element.Rational = 5

-- 2 and 4 stand for FLOAT and DOUBLE, which have no place here
abbrev pub type_numbered : ℕ → Option ElementType
type_numbered n =
    if n == 0 then Some element.Byte
    else (if n == 1 then Some element.Int32
    else (if n == 3 then Some element.Int64 else (if n == 5 then Some element.Rational else None)))

-- the bytes of one element
abbrev pub element_len : ElementType → ℕ
element_len element.Byte = 1
element_len element.Int32 = 4
element_len element.Int64 = 8
element_len element.Rational = 8

abbrev pub type_of : Values → ElementType
type_of (Bytes _) = element.Byte
type_of (Int32 _) = element.Int32
type_of (Int64 _) = element.Int64
type_of (Rational _) = element.Rational

abbrev pub count_of : Values → ℕ
count_of (Bytes bs) = length bs
count_of (Int32 ns) = length ns
count_of (Int64 ns) = length ns
count_of (Rational rs) = length rs

-- ---- from values to bytes

abbrev pub int32_bytes : ℤ → List ℕ
int32_bytes z = to_le_bytes w32 (cast_unsigned w32 z)

abbrev pub int64_bytes : ℤ → List ℕ
int64_bytes z = to_le_bytes w64 (cast_unsigned w64 z)

abbrev pub ratio_bytes : Ratio → List ℕ
ratio_bytes r = int32_bytes r.numerator ++ int32_bytes r.denominator

abbrev pub payload : Values → List ℕ
payload (Bytes bs) = bs
payload (Int32 ns) = flat_map int32_bytes ns
payload (Int64 ns) = flat_map int64_bytes ns
payload (Rational rs) = flat_map ratio_bytes rs

-- ---- from bytes to values

abbrev pub int32_of : List ℕ → ℤ
int32_of bytes = cast_signed w32 (from_le_bytes w32 bytes)

abbrev pub int64_of : List ℕ → ℤ
int64_of bytes = cast_signed w64 (from_le_bytes w64 bytes)

abbrev pub ratio_of : List ℕ → Ratio
ratio_of bytes = record { numerator = int32_of (take 4 bytes); denominator = int32_of (drop 4 bytes) }

-- the bytes cut into so many pieces of one length, each of them read
abbrev pub pieces : {X : Type 0} → ℕ → (List ℕ → X) → ℕ → List ℕ → List X
pieces len read zero bytes = []
pieces len read (suc n) bytes = read (take len bytes) ∷ pieces len read n (drop len bytes)

abbrev pub values_from : ElementType → ℕ → List ℕ → Values
values_from element.Byte count bytes = Bytes bytes
values_from element.Int32 count bytes = Int32 (pieces 4 int32_of count bytes)
values_from element.Int64 count bytes = Int64 (pieces 8 int64_of count bytes)
values_from element.Rational count bytes = Rational (pieces 8 ratio_of count bytes)

-- ---- each number is one of its type

abbrev pub RatioFits : Ratio → Type 0
RatioFits r = FitsSigned w32 r.numerator × FitsSigned w32 r.denominator

abbrev pub ValuesFit : Values → Type 0
ValuesFit (Bytes bs) = AllByRecursion (λ b. b < 2 ^ 8) bs
ValuesFit (Int32 ns) = AllByRecursion (FitsSigned w32) ns
ValuesFit (Int64 ns) = AllByRecursion (FitsSigned w64) ns
ValuesFit (Rational rs) = AllByRecursion RatioFits rs
