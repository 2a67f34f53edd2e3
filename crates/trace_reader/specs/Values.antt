-- What the words of a line stand for. (docs/FORMATS.md, trace text)
use Rattle.std.specs.Prelude.{ℕ, ◌==◌, ◌^◌, Bool, true, false, ◌&&◌, ◌||◌, nat_le, List, [], ◌∷◌, length, Option, Some, None, Result, Ok, Err, if◌then◌else◌, codes, bytes_eq, decimal}
use Rattle.std.specs.List.{list_all}
use Rattle.cam_types.specs.Limits.{profile_limit}
use Rattle.cam_types.specs.declared.number.FenceNo.{FenceNo}
use Rattle.cam_types.specs.declared.reply.Made.{Made}
use Rattle.hex.specs.Hex.{decode_of}
use Rattle.trace_model.specs.declared.entry.Sent.{Sent}
use Rattle.trace_reader.specs.declared.cause.Cause.{Cause}
use Rattle.trace_reader.specs.declared.cause.Cause.TheVariants.{Truncated, BadNumber, BadLine, BadMetadata}
use Rattle.text_parts.specs.Cuts.{cut_at}
use Rattle.text_parts.specs.Numbers.{is_number, number_below, number_within}

-- Words have their causes by themselves, and the cause of a line is the first of its words' causes in the order
-- BadLine, BadNumber, BadMetadata: a line's shape comes before its numbers. A word's shape is its signs, each the first
-- of its kind in what is left of the word; anything may stand between them at the place of a number.

infixl 10 ◌>>=◌
abbrev pub ◌>>=◌ : {A B : Type 0} → Result A Cause → (A → Result B Cause) → Result B Cause
(Ok x) >>= f = f x
(Err cause) >>= f = Err cause

-- the place of a cause in the order
abbrev pub rank : Cause → ℕ
rank BadLine = 0
rank BadNumber = 1
rank BadMetadata = 2
rank Truncated = 3

-- the one of two causes that comes first
abbrev pub first_cause : Cause → Cause → Cause
first_cause c d = if nat_le (rank c) (rank d) then c else d

-- two values, or the first cause
abbrev pub both : {A B : Type 0} → Result A Cause → Result B Cause → Result (A × B) Cause
both (Ok x) (Ok y) = Ok (x, y)
both (Ok x) (Err d) = Err d
both (Err c) (Ok y) = Err c
both (Err c) (Err d) = Err (first_cause c d)

-- ---- numbers

abbrev pub good : {A : Type 0} → Option A → Result A Cause
good None = Err BadNumber
good (Some x) = Ok x

abbrev pub number : ℕ → List ℕ → Result ℕ Cause
number limit word = good (number_below limit word)

-- a number of 8, 32 or 64 bits
abbrev pub byte : List ℕ → Result ℕ Cause
byte word = number (2 ^ 8) word

abbrev pub small : List ℕ → Result ℕ Cause
small word = number (2 ^ 32) word

abbrev pub large : List ℕ → Result ℕ Cause
large word = number (2 ^ 64) word

-- a number of a profile
abbrev pub profile_number : List ℕ → Result ℕ Cause
profile_number word = good (number_within 1 profile_limit word)

-- a number of 32 bits behind a letter
abbrev pub numbered : ℕ → List ℕ → Result ℕ Cause
numbered letter [] = Err BadLine
numbered letter (b ∷ bs) = if b == letter then small bs else Err BadLine

-- 98 is `b`, 100 `d`, 102 `f` and 114 `r`
abbrev pub buffer : List ℕ → Result ℕ Cause
buffer word = numbered 98 word

abbrev pub fence_number : List ℕ → Result ℕ Cause
fence_number word = numbered 102 word

-- a fence that the device signals
abbrev pub device_fence : List ℕ → Result ℕ Cause
device_fence word = numbered 100 word

abbrev pub request : List ℕ → Result ℕ Cause
request word = numbered 114 word

-- a fence, or `-` where there is none
abbrev pub fence : List ℕ → Result (Option FenceNo) Cause
fence word = if bytes_eq word (codes "-") then Ok None else (fence_number word >>= λ k. Ok (Some (record { 0 = k })))

-- ---- words of several parts

-- two values from what stands before and after a sign
abbrev pub cut_in : {A B : Type 0} → Option (List ℕ × List ℕ) → (List ℕ → Result A Cause) → (List ℕ → Result B Cause) →
    Result (A × B) Cause
cut_in None front back = Err BadLine
cut_in (Some cut) front back = both (front cut.0) (back cut.1)

-- `rR.I`: 46 is `.`
abbrev pub item : List ℕ → Result (ℕ × ℕ) Cause
item word = cut_in (cut_at 46 word) request small

-- `bB:F`: 58 is `:`
abbrev pub fenced_buffer : List ℕ → Result (ℕ × Option FenceNo) Cause
fenced_buffer word = cut_in (cut_at 58 word) buffer fence

-- `S:bB:F`
unfoldable pub sent : List ℕ → Result Sent Cause
sent word =
    cut_in (cut_at 58 word) byte fenced_buffer >>= λ p. Ok
    (record { stream = record { 0 = p.0 }; buffer = record { 0 = p.1.0 }; fence = p.1.1 })

-- the number of a stream that isn't free: another number isn't the line's shape
abbrev pub stream_number : ℕ → List ℕ → Result ℕ Cause
stream_number s word =
    if bytes_eq word (decimal s) then Ok s else (if is_number word then Err BadLine else Err BadNumber)

-- `bB+C`: 43 is `+`
abbrev pub buffers : List ℕ → Result (ℕ × ℕ) Cause
buffers word = cut_in (cut_at 43 word) buffer small

-- `S:bB+C`, where S is the number of the stream
unfoldable pub made : ℕ → List ℕ → Result Made Cause
made s word =
    cut_in (cut_at 58 word) (stream_number s) buffers >>= λ p. Ok
    (record { first = record { 0 = p.1.0 }; count = p.1.1 })

abbrev pub mark : List ℕ → Result Bool Cause
mark word =
    if bytes_eq word (codes "same") then Ok true else (if bytes_eq word (codes "new") then Ok false else Err BadLine)

-- the number of a part
abbrev pub part_number : List ℕ → Result ℕ Cause
part_number word =
    if bytes_eq word (codes "1") then Ok 1
    else (if bytes_eq word (codes "2") then Ok 2 else (if bytes_eq word (codes "3") then Ok 3 else Err BadNumber))

-- ---- hexadecimal text

-- `0` to `9` and `a` to `f`
abbrev pub is_lower_digit : ℕ → Bool
is_lower_digit b = (nat_le 48 b && nat_le b 57) || (nat_le 97 b && nat_le b 102)

abbrev pub decoded : {E : Type 0} → Result (List ℕ) E → Result (List ℕ) Cause
decoded (Ok bytes) = Ok bytes
decoded (Err e) = Err BadNumber

-- the bytes of a text that has two digits for each, in lower case
abbrev pub hex_bytes : List ℕ → Result (List ℕ) Cause
hex_bytes word = if list_all is_lower_digit word then decoded (decode_of word) else Err BadNumber

-- the 32 bytes of a digest
unfoldable pub digest : List ℕ → Result (List ℕ) Cause
digest word = if length word == 64 then hex_bytes word else Err BadNumber
