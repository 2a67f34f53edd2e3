-- What the words of a line stand for. (docs/FORMATS.md, hal log)
use Rattle.std.specs.Prelude.{ℕ, ◌==◌, ◌^◌, Bool, true, false, ◌&&◌, ◌||◌, not, List, [], ◌∷◌, ◌++◌, length, drop, replicate, nat_le, Option, Some, None, Result, Ok, Err, if◌then◌else◌, codes, bytes_eq}
use Rattle.std.specs.List.{list_all}
use Rattle.std.specs.Str.Parse.{digits_value}
use Rattle.hal_model.specs.declared.event.Direction.{Direction}
use Rattle.hal_model.specs.declared.event.Direction.TheVariants.{Output, Input, Bidirectional}
use Rattle.hal_model.specs.declared.event.HalError.{HalError}
use Rattle.hal_model.specs.declared.event.HalError.TheVariants.{NoDevice, Other}
use Rattle.hal_model.specs.declared.event.HalFence.{HalFence}
use Rattle.hal_model.specs.declared.event.HalFence.TheVariants as fence
use Rattle.hal_model.specs.declared.event.HalFormat.{HalFormat}
use Rattle.hal_model.specs.declared.event.HalFormat.TheVariants as format
use Rattle.hal_model.specs.declared.event.HalStream.{HalStream}
use Rattle.hal_model.specs.declared.event.HalTarget.{HalTarget}
use Rattle.hal_model.specs.declared.event.Pack.{Pack}
use Rattle.hal_model.specs.declared.event.Pack.TheVariants as pack
use Rattle.hal_model.specs.declared.event.Returned.{Returned}
use Rattle.hal_model.specs.declared.event.Status.{Status}
use Rattle.hal_model.specs.declared.event.Status.TheVariants.{Filled, Failed, Unknown}
use Rattle.hal_model.specs.declared.event.StreamMax.{StreamMax}
use Rattle.hal_model.specs.Fits.{is_error_name, part_limit}
use Rattle.hal_lines.specs.declared.cause.Cause.{Cause}
use Rattle.hal_lines.specs.declared.cause.Cause.TheVariants.{BadNumber, BadLine}
use Rattle.text_parts.specs.Cuts.{in_two, parts_at, two_parts}
use Rattle.text_parts.specs.Numbers.{number_below, number_within}

-- ---- the first of a line's causes: its shape is looked at before its numbers

infixl 10 ◌>>=◌
abbrev pub ◌>>=◌ : {A B : Type 0} → Result A Cause → (A → Result B Cause) → Result B Cause
(Ok x) >>= f = f x
(Err cause) >>= f = Err cause

abbrev pub first_cause : Cause → Cause → Cause
first_cause cause BadLine = BadLine
first_cause cause _ = cause

-- two values, or the cause that comes first
abbrev pub both : {A B : Type 0} → Result A Cause → Result B Cause → Result (A × B) Cause
both (Ok a) (Ok b) = Ok (a, b)
both (Ok a) (Err d) = Err d
both (Err c) (Ok b) = Err c
both (Err c) (Err d) = Err (first_cause c d)

-- ---- numbers

abbrev pub numbered : {A : Type 0} → Option A → Result A Cause
numbered None = Err BadNumber
numbered (Some n) = Ok n

-- a number of 32 bits, and one of 64
abbrev pub small : List ℕ → Result ℕ Cause
small word = numbered (number_below (2 ^ 32) word)

abbrev pub large : List ℕ → Result ℕ Cause
large word = numbered (number_below (2 ^ 64) word)

-- a partial result count
abbrev pub count : List ℕ → Result ℕ Cause
count word = numbered (number_within 1 part_limit word)

-- rotations have no 0: what isn't rotated has no word for it
abbrev pub rotation : List ℕ → Result ℕ Cause
rotation word = numbered (number_within 1 4294967295 word)

-- a digit or a letter from `A` (65) to `F` (70)
abbrev pub is_hexadecimal : ℕ → Bool
is_hexadecimal b = (nat_le 48 b && nat_le b 57) || (nat_le 65 b && nat_le b 70)

-- up to eight of these, without leading zeros
abbrev pub is_hexadecimal_number : List ℕ → Bool
is_hexadecimal_number [] = false
is_hexadecimal_number (d ∷ []) = is_hexadecimal d
is_hexadecimal_number (d ∷ e ∷ ds) =
    not (d == 48) && (nat_le (length (d ∷ e ∷ ds)) 8 && list_all is_hexadecimal (d ∷ e ∷ ds))

unfoldable pub hexadecimal : List ℕ → Result ℕ Cause
hexadecimal word = if is_hexadecimal_number word then Ok (digits_value 16 word) else Err BadNumber

-- a number, or `?` for one that the framework doesn't know
abbrev pub known : List ℕ → Result (Option ℕ) Cause
known word = if bytes_eq word (codes "?") then Ok None else (small word >>= λ n. Ok (Some n))

-- a number, or `-` for none
abbrev pub acquire : List ℕ → Result (Option ℕ) Cause
acquire word = if bytes_eq word (codes "-") then Ok None else (small word >>= λ n. Ok (Some n))

-- `-`, `?` or a number
unfoldable pub release : List ℕ → Result HalFence Cause
release word =
    if bytes_eq word (codes "-") then Ok fence.Absent
    else (if bytes_eq word (codes "?") then Ok fence.Foreign
    else (small word >>= λ n. Ok (fence.Number n)))

-- a letter, and what is read behind it
abbrev pub behind : {A : Type 0} → ℕ → (List ℕ → Result A Cause) → List ℕ → Result A Cause
behind letter read [] = Err BadLine
behind letter read (b ∷ bs) = if b == letter then read bs else Err BadLine

-- ---- names

unfoldable pub error_of : List ℕ → Result HalError Cause
error_of word =
    if not (is_error_name word) then Err BadLine
    else (if bytes_eq word (codes "ENODEV") then Ok NoDevice
    else Ok (Other (record { count = length word; letters = word ++ drop (length word) (replicate 15 0) })))

unfoldable pub format_of : List ℕ → Result HalFormat Cause
format_of word =
    if bytes_eq word (codes "YUV") then Ok format.Yuv
    else (if bytes_eq word (codes "IMPL") then Ok format.Implementation
    else (if bytes_eq word (codes "BLOB") then Ok format.Blob
    else (if bytes_eq word (codes "RAW16") then Ok format.Raw16
    else (behind 72 hexadecimal word >>= λ n. Ok (format.Number n)))))

unfoldable pub status_of : List ℕ → Result Status Cause
status_of word =
    if bytes_eq word (codes "ok") then Ok Filled
    else (if bytes_eq word (codes "error") then Ok Failed
    else (if bytes_eq word (codes "?") then Ok Unknown
    else Err BadLine))

unfoldable pub pack_of : List ℕ → Result Pack Cause
pack_of word =
    if bytes_eq word (codes "metadata") then Ok pack.Entries
    else (if bytes_eq word (codes "empty") then Ok pack.Empty
    else (if bytes_eq word (codes "none") then Ok pack.Absent
    else Err BadLine))

abbrev pub settings_of : List ℕ → Result Bool Cause
settings_of word =
    if bytes_eq word (codes "settings") then Ok false
    else (if bytes_eq word (codes "same") then Ok true
    else Err BadLine)

-- ---- words of fields, which a `:` (58) separates

-- `FORMAT`, and `W` and `H` where there are two sides
abbrev pub size_with : List ℕ → Option (List ℕ × List ℕ) → Result (HalFormat × (ℕ × ℕ)) Cause
size_with f None = Err BadLine
size_with f (Some sides) = both (format_of f) (both (small sides.0) (small sides.1))

-- `FORMATxWxH`, by its parts: 120 is `x`
abbrev pub size_by : List (List ℕ) → Result (HalFormat × (ℕ × ℕ)) Cause
size_by [] = Err BadLine
size_by (f ∷ sides) = size_with f (two_parts sides)

-- the direction of a stream, by its last field, where it has one more
abbrev pub direction_by : List (List ℕ) → Result Direction Cause
direction_by [] = Ok Output
direction_by (word ∷ []) =
    if bytes_eq word (codes "in") then Ok Input
    else (if bytes_eq word (codes "bidi") then Ok Bidirectional
    else Err BadLine)
direction_by _ = Err BadLine

-- `rD`, and what stands behind it: 114 is `r`
abbrev pub turned_with : List ℕ → List (List ℕ) → Result (ℕ × Direction) Cause
turned_with [] fields = Err BadLine
turned_with (b ∷ bs) fields =
    if b == 114 then both (rotation bs) (direction_by fields)
    else (direction_by ((b ∷ bs) ∷ fields) >>= λ d. Ok (0, d))

-- the rotation and the direction, by the fields behind the size
abbrev pub turned_by : List (List ℕ) → Result (ℕ × Direction) Cause
turned_by [] = Ok (0, Output)
turned_by (word ∷ fields) = turned_with word fields

abbrev pub stream_in : Result (ℕ × ((HalFormat × (ℕ × ℕ)) × (ℕ × Direction))) Cause → Result HalStream Cause
stream_in fields =
    fields
    >>= λ p. Ok (record {
      stream = p.0;
      format = p.1.0.0;
      width = p.1.0.1.0;
      height = p.1.0.1.1;
      rotation = p.1.1.0;
      direction = p.1.1.1;
    })

-- `S:FORMATxWxH[:rD][:in|:bidi]`
abbrev pub stream_by : List (List ℕ) → Result HalStream Cause
stream_by (s ∷ size ∷ fields) = stream_in (both (small s) (both (size_by (parts_at 120 size)) (turned_by fields)))
stream_by _ = Err BadLine

abbrev pub stream_of : List ℕ → Result HalStream Cause
stream_of word = stream_by (parts_at 58 word)

-- `S:MAX`
abbrev pub max_in : Option (List ℕ × List ℕ) → Result StreamMax Cause
max_in None = Err BadLine
max_in (Some fields) = both (small fields.0) (small fields.1) >>= λ p. Ok (record { stream = p.0; max = p.1 })

abbrev pub max_of : List ℕ → Result StreamMax Cause
max_of word = max_in (in_two 58 word)

-- `S`, and `bB` and `F` where there are two more fields: 98 is `b`
abbrev pub target_with : List ℕ → Option (List ℕ × List ℕ) → Result HalTarget Cause
target_with s None = Err BadLine
target_with s (Some fields) =
    both (small s) (both (behind 98 small fields.0) (acquire fields.1))
    >>= λ p. Ok (record { stream = p.0; buffer = p.1.0; fence = p.1.1 })

-- `S:bB:F`
abbrev pub target_by : List (List ℕ) → Result HalTarget Cause
target_by [] = Err BadLine
target_by (s ∷ fields) = target_with s (two_parts fields)

abbrev pub target_of : List ℕ → Result HalTarget Cause
target_of word = target_by (parts_at 58 word)

abbrev pub acquired_of : List ℕ → Result Bool Cause
acquired_of word = if bytes_eq word (codes "acquire") then Ok true else Err BadLine

-- `F[:acquire]`
abbrev pub fences_by : List (List ℕ) → Result (HalFence × Bool) Cause
fences_by (f ∷ []) = both (release f) (Ok false)
fences_by (f ∷ a ∷ []) = both (release f) (acquired_of a)
fences_by _ = Err BadLine

abbrev pub returned_in : Result (Option ℕ × (Option ℕ × (Status × (HalFence × Bool)))) Cause → Result Returned Cause
returned_in fields =
    fields
    >>= λ p. Ok (record {
      stream = p.0;
      buffer = p.1.0;
      status = p.1.1.0;
      release = p.1.1.1.0;
      acquire = p.1.1.1.1;
    })

-- `S:bB:STATUS:F[:acquire]`
abbrev pub returned_by : List (List ℕ) → Result Returned Cause
returned_by (s ∷ b ∷ t ∷ fields) =
    returned_in (both (known s) (both (behind 98 known b) (both (status_of t) (fences_by fields))))
returned_by _ = Err BadLine

abbrev pub returned_of : List ℕ → Result Returned Cause
returned_of word = returned_by (parts_at 58 word)

-- the number of `mode:M`, where the word is one
abbrev pub mode_in : Option (List ℕ × List ℕ) → Option (List ℕ)
mode_in None = None
mode_in (Some fields) = if bytes_eq fields.0 (codes "mode") then Some fields.1 else None

abbrev pub mode_of : List ℕ → Option (List ℕ)
mode_of word = mode_in (in_two 58 word)

-- `buffer:S`
abbrev pub buffer_in : Option (List ℕ × List ℕ) → Result (Option ℕ) Cause
buffer_in None = Err BadLine
buffer_in (Some fields) = if bytes_eq fields.0 (codes "buffer") then known fields.1 else Err BadLine

abbrev pub buffer_of : List ℕ → Result (Option ℕ) Cause
buffer_of word = buffer_in (in_two 58 word)
