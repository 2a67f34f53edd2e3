-- The one spelling of a list of entries: the packed form (docs/FORMATS.md). Its layout is our own choice.
use Rattle.std.specs.Prelude.{ℕ, ◌+◌, ◌-◌, ◌*◌, ◌/◌, if◌then◌else◌, Bool, nat_le, List, [], ◌∷◌, ◌++◌, length, replicate}
use Rattle.std.specs.List.{flat_map}
use Rattle.std.specs.Int.{w32, to_le_bytes}
use Rattle.metadata.specs.declared.entry.Entry.{Entry}
use Rattle.metadata.specs.Values.{type_number, type_of, count_of, payload}

abbrev pub u32_bytes : ℕ → List ℕ
u32_bytes n = to_le_bytes w32 n

-- the least multiple of 8 that is no less
abbrev pub rounded : ℕ → ℕ
rounded n = (n + 7) / 8 * 8

-- filled up with zeros to a length
abbrev pub filled : ℕ → List ℕ → List ℕ
filled len bytes = bytes ++ replicate (len - length bytes) 0

-- a payload of at most four bytes stands in the entry itself, a longer one in the data area
abbrev pub is_short : List ℕ → Bool
is_short bytes = nat_le (length bytes) 4

-- what the data area has of a payload
abbrev pub data_of : List ℕ → List ℕ
data_of bytes = if is_short bytes then [] else filled (rounded (length bytes)) bytes

-- the third field of an entry: its payload, or where in the data area that is
abbrev pub field_of : ℕ → List ℕ → List ℕ
field_of place bytes = if is_short bytes then filled 4 bytes else u32_bytes place

-- an entry whose payload, if it is a long one, stands at a place of the data area
unfoldable pub entry_bytes : ℕ → Entry → List ℕ
entry_bytes place e =
    u32_bytes e.tag
    ++
    (u32_bytes (count_of e.values)
    ++ (field_of place (payload e.values) ++ type_number (type_of e.values) ∷ 0 ∷ 0 ∷ 0 ∷ []))

-- the entries, whose payloads tile the data area from a place on
abbrev pub entries_bytes : ℕ → List Entry → List ℕ
entries_bytes place [] = []
entries_bytes place (e ∷ es) = entry_bytes place e ++ entries_bytes (place + length (data_of (payload e.values))) es

abbrev pub data_area : List Entry → List ℕ
data_area es = flat_map (λ e. data_of (payload e.values)) es

-- version, number of entries, length of the data area, whole length; the entries; the data area
unfoldable pub bytes_of : List Entry → List ℕ
bytes_of es =
    u32_bytes 1
    ++
    (u32_bytes (length es)
    ++ (u32_bytes (length (data_area es)) ++ (u32_bytes (16 + 16 * length es + length (data_area es))
    ++ (entries_bytes 0 es ++ data_area es))))
