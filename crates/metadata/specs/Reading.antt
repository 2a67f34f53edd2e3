-- The grammar of the packed form (docs/FORMATS.md): the list of entries that bytes spell, or the first refusal.
use Rattle.std.specs.Prelude.{◌≡◌, ◌≢◌, ℕ, ◌+◌, ◌*◌, ◌%◌, ◌==◌, if◌then◌else◌, Bool, ◌&&◌, ◌||◌, not, nat_lt, nat_le, List, [], ◌∷◌, length, take, drop, slice_index, Option, Some, None, Result, Ok, Err}
use Rattle.std.specs.List.{list_all}
use Rattle.std.specs.Int.{w32, from_le_bytes}
use Rattle.metadata.specs.declared.element.ElementType.{ElementType}
use Rattle.metadata.specs.declared.entry.Entry.{Entry}
use Rattle.metadata.specs.declared.refused.PackedRefused.{PackedRefused}
use Rattle.metadata.specs.declared.refused.PackedRefused.TheVariants.{Short, BadHeader, BadType, BadCount, Overlap, Unsorted, Repeated, NoMemory}
use Rattle.metadata.specs.Values.{type_numbered, element_len, pieces, values_from}
use Rattle.metadata.specs.Spelling.{rounded}

infixl 10 ◌>>=◌
abbrev pub ◌>>=◌ : {A B : Type 0} → Result A PackedRefused → (A → Result B PackedRefused) → Result B PackedRefused
(Ok x) >>= f = f x
(Err e) >>= f = Err e

-- What a call answered, seen by view, is what was wanted, unless memory ran out.
abbrev pub AnswersPacked : {X Y : Type 0} → (X → Y) → Result X PackedRefused → Result Y PackedRefused → Type 0
AnswersPacked view (Ok x) wanted = wanted ≡ Ok (view x)
AnswersPacked view (Err e) wanted = e ≢ NoMemory → wanted ≡ Err e

-- the number in the four bytes at a place
abbrev pub u32_at : ℕ → List ℕ → ℕ
u32_at place bytes = from_le_bytes w32 (take 4 (drop place bytes))

abbrev pub all_zero : List ℕ → Bool
all_zero bytes = list_all (λ b. b == 0) bytes

-- ---- an entry: 16 bytes, in which the tag, the count, the payload or its place, the type number, and three zeros
-- stand

abbrev pub tag_in : List ℕ → ℕ
tag_in slot = u32_at 0 slot

abbrev pub count_in : List ℕ → ℕ
count_in slot = u32_at 4 slot

abbrev pub field_in : List ℕ → List ℕ
field_in slot = take 4 (drop 8 slot)

abbrev pub place_in : List ℕ → ℕ
place_in slot = u32_at 8 slot

abbrev pub type_in : List ℕ → Option ElementType
type_in slot = type_numbered (slice_index slot 12)

abbrev pub reserved_in : List ℕ → List ℕ
reserved_in slot = take 3 (drop 13 slot)

-- the payload of so many bytes that stands in front of zeros
unfoldable pub payload_before_zeros : ℕ → List ℕ → Option (List ℕ)
payload_before_zeros size bytes = if all_zero (drop size bytes) then Some (take size bytes) else None

abbrev pub with_end : ℕ → Option (List ℕ) → Option (List ℕ × ℕ)
with_end end None = None
with_end end (Some bytes) = Some (bytes, end)

-- An entry's payload of so many bytes, and how far the area is tiled with it. A short one stands in the entry. A long
-- one stands where the tiling has come to, and ends within the area. Zeros fill up both.
unfoldable pub payload_at : List ℕ → ℕ → List ℕ → ℕ → Option (List ℕ × ℕ)
payload_at slot size area tiled =
    if nat_le size 4 then with_end tiled (payload_before_zeros size (field_in slot))
    else (if (place_in slot == tiled) && nat_le (tiled + rounded size) (length area)
    then with_end (tiled + rounded size) (payload_before_zeros size (take (rounded size) (drop tiled area)))
    else None)

-- what a tag is refused for behind the last one
abbrev pub order_refusal : ℕ → Option ℕ → Option PackedRefused
order_refusal tag None = None
order_refusal tag (Some last) = if nat_lt tag last then Some Unsorted else (if tag == last then Some Repeated else None)

abbrev pub unless : {X : Type 0} → Option PackedRefused → X → Result X PackedRefused
unless None x = Ok x
unless (Some e) x = Err e

abbrev pub placed_entry : Option (List ℕ × ℕ) → ElementType → List ℕ → Option ℕ → Result (Entry × ℕ) PackedRefused
placed_entry None t slot last = Err Overlap
placed_entry (Some p) t slot last =
    unless (order_refusal (tag_in slot) last)
    (record { tag = tag_in slot; values = values_from t (count_in slot) p.0 }, p.1)

abbrev pub typed_entry : Option ElementType → List ℕ → List ℕ → ℕ → Option ℕ → Result (Entry × ℕ) PackedRefused
typed_entry None slot area tiled last = Err BadType
typed_entry (Some t) slot area tiled last =
    if not (all_zero (reserved_in slot)) then Err BadType
    else (if (count_in slot == 0) || nat_lt 1024 (count_in slot) then Err BadCount
    else placed_entry (payload_at slot (count_in slot * element_len t) area tiled) t slot last)

-- The entry in 16 bytes, behind an entry of the tag `last`, and how far the area is tiled with it; or the first rule
-- that it breaks.
unfoldable pub entry_of : List ℕ → List ℕ → ℕ → Option ℕ → Result (Entry × ℕ) PackedRefused
entry_of slot area tiled last = typed_entry (type_in slot) slot area tiled last

-- the entries one after the other; no byte of the area is left
unfoldable pub entries_of : List (List ℕ) → List ℕ → ℕ → Option ℕ → Result (List Entry) PackedRefused
entries_of [] area tiled last = if length area == tiled then Ok [] else Err Overlap
entries_of (slot ∷ slots) area tiled last = do
  first ← entry_of slot area tiled last
  others ← entries_of slots area first.1 (Some first.0.tag)
  Ok (first.0 ∷ others)

-- ---- the whole

abbrev pub version_in : List ℕ → ℕ
version_in bytes = u32_at 0 bytes

abbrev pub entry_count : List ℕ → ℕ
entry_count bytes = u32_at 4 bytes

abbrev pub area_len : List ℕ → ℕ
area_len bytes = u32_at 8 bytes

abbrev pub whole_len : List ℕ → ℕ
whole_len bytes = u32_at 12 bytes

-- the header keeps its rules
abbrev pub is_header : List ℕ → Bool
is_header bytes =
    (version_in bytes == 1)
    && (nat_le (entry_count bytes) 64 && ((area_len bytes % 8 == 0) && (nat_le (area_len bytes) 4096
    && (whole_len bytes == 16 + 16 * entry_count bytes + area_len bytes))))

-- the entries' bytes, 16 each
abbrev pub slots_in : List ℕ → List (List ℕ)
slots_in bytes = pieces 16 (λ slot. slot) (entry_count bytes) (take (16 * entry_count bytes) (drop 16 bytes))

abbrev pub area_in : List ℕ → List ℕ
area_in bytes = drop (16 * entry_count bytes) (drop 16 bytes)

unfoldable pub list_of : List ℕ → Result (List Entry) PackedRefused
list_of bytes =
    if nat_lt (length bytes) 16 then Err Short
    else (if not (is_header bytes) then Err BadHeader
    else (if nat_lt (length bytes) (whole_len bytes) then Err Short
    else (if nat_lt (whole_len bytes) (length bytes) then Err BadHeader
    else entries_of (slots_in bytes) (area_in bytes) 0 None)))
