-- The packed form of a part is made of bytes.
use Rattle.std.proofs.Common.{◌≡◌, ℕ, zero, suc, ◌+◌, ◌-◌, ◌*◌, ◌/◌, ◌%◌, ◌<◌, ◌^◌, Bool, true, false, ◌&&◌, cond, eqb, ltb, List, [], ◌∷◌, ◌++◌, length, replicate, refl, ◌∙◌, arith}
use Rattle.std.specs.List.{list_all}
use Rattle.std.specs.Int.{w32, w64, bytes_low_first, byte_at, cast_unsigned}
use Rattle.std.specs.Prelude.{pos}
use Rattle.std.proofs.lemmas.Bool.{and_parts, and_from, lt-ltb}
use Rattle.std.proofs.lemmas.List.Folds.{list_all-append}
use Rattle.cam_types.specs.declared.partial_result.PartialResult.{PartialResult}
use Rattle.cam_types.specs.declared.partial_result.PartialResult.TheVariants.{Look, Light, Time}
use Rattle.metadata.specs.declared.entry.Entry.{Entry}
use Rattle.metadata.specs.declared.values.Values.{Values}
use Rattle.metadata.specs.declared.values.Values.TheVariants.{Bytes, Int32, Int64}
use Rattle.metadata.specs.Values.{type_number, type_of, count_of, payload, int32_bytes, int64_bytes}
use Rattle.metadata.specs.Spelling.{u32_bytes, rounded, filled, is_short, data_of, field_of, entry_bytes, entries_bytes, data_area, bytes_of}
use Rattle.metadata.specs.Parts.{part_entries}
use Rattle.trace_model.specs.Printable.{is_byte, part_fits}

abbrev Bytes-alone : List ℕ → Type 0
Bytes-alone xs = list_all is_byte xs ≡ true

rest-small : (n : ℕ) → n % 256 < 256
rest-small n = omega arith

byte-small : (i n : ℕ) → is_byte (byte_at i n) ≡ true
byte-small zero n = lt-ltb (n % 256) 256 (omega arith)
byte-small (suc i) n = lt-ltb (n / 256 ^ suc i % 256) 256 (rest-small (n / 256 ^ suc i))

low-first : (i k n : ℕ) → Bytes-alone (bytes_low_first i k n)
low-first i zero n = refl
low-first i (suc k) n = and_from _ _ (byte-small i n) (low-first (suc i) k n)

append : (a b : List ℕ) → Bytes-alone a → Bytes-alone b → Bytes-alone (a ++ b)
append a b h k = list_all-append is_byte a b ∙ and_from _ _ h k

zeros : (n : ℕ) → Bytes-alone (replicate n 0)
zeros zero = refl
zeros (suc n) = zeros n

word : (n : ℕ) → Bytes-alone (u32_bytes n)
word n = low-first 0 4 n

fill : (len : ℕ) (bytes : List ℕ) → Bytes-alone bytes → Bytes-alone (filled len bytes)
fill len bytes h = append bytes (replicate (len - length bytes) 0) h (zeros (len - length bytes))

either : (b : Bool) (x y : List ℕ) → Bytes-alone x → Bytes-alone y → Bytes-alone (cond b x y)
either true x y h k = h
either false x y h k = k

kind : (v : Values) → is_byte (type_number (type_of v)) ≡ true
kind (Bytes _) = refl
kind _ = refl

-- payloads that are made of bytes
abbrev Payloads : List Entry → Type 0
Payloads [] = Unit {0}
Payloads (e ∷ es) = Bytes-alone (payload e.values) × Payloads es

one-entry : (place : ℕ) (e : Entry) → Bytes-alone (payload e.values) → Bytes-alone (entry_bytes place e)
unfolding entry_bytes
one-entry place e h =
    append (u32_bytes e.tag) (u32_bytes (count_of e.values) ++ (field_of place (payload e.values) ++ type_number (type_of e.values) ∷ 0 ∷ 0 ∷ 0 ∷ [])) (word e.tag)
    (append (u32_bytes (count_of e.values)) (field_of place (payload e.values) ++ type_number (type_of e.values) ∷ 0 ∷ 0 ∷ 0 ∷ []) (word (count_of e.values))
    (append (field_of place (payload e.values)) (type_number (type_of e.values) ∷ 0 ∷ 0 ∷ 0 ∷ []) (either (is_short (payload e.values)) (filled 4 (payload e.values)) (u32_bytes place) (fill 4 (payload e.values) h) (word place)) (and_from _ _ (kind e.values) refl)))

all-entries : (place : ℕ) (es : List Entry) → Payloads es → Bytes-alone (entries_bytes place es)
all-entries place [] h = refl
all-entries place (e ∷ es) h = append (entry_bytes place e) (entries_bytes (place + length (data_of (payload e.values))) es) (one-entry place e h.0) (all-entries (place + length (data_of (payload e.values))) es h.1)

all-data : (es : List Entry) → Payloads es → Bytes-alone (data_area es)
all-data [] h = refl
all-data (e ∷ es) h =
    append (data_of (payload e.values)) (data_area es) (either (is_short (payload e.values)) [] (filled (rounded (length (payload e.values))) (payload e.values)) refl (fill (rounded (length (payload e.values))) (payload e.values) h.0)) (all-data es h.1)

packed : (es : List Entry) → Payloads es → Bytes-alone (bytes_of es)
unfolding bytes_of
packed es h =
    let body : List ℕ = entries_bytes 0 es ++ data_area es in
    let whole : ℕ = 16 + 16 * length es + length (data_area es) in
    let area : ℕ = length (data_area es) in
    append (u32_bytes 1) (u32_bytes (length es) ++ (u32_bytes area ++ (u32_bytes whole ++ body))) (word 1)
    (append (u32_bytes (length es)) (u32_bytes area ++ (u32_bytes whole ++ body)) (word (length es))
    (append (u32_bytes area) (u32_bytes whole ++ body) (word area)
    (append (u32_bytes whole) body (word whole)
    (append (entries_bytes 0 es) (data_area es) (all-entries 0 es h) (all-data es h)))))

int32 : (n : ℕ) → Bytes-alone (payload (Int32 (pos n ∷ [])))
int32 n = append (int32_bytes (pos n)) [] (low-first 0 4 (cast_unsigned w32 (pos n))) refl

int64 : (n : ℕ) → Bytes-alone (payload (Int64 (pos n ∷ [])))
int64 n = append (int64_bytes (pos n)) [] (low-first 0 8 (cast_unsigned w64 (pos n))) refl

pub part-all : (k : ℕ) (part : PartialResult) → part_fits k part ≡ true → list_all is_byte (bytes_of (part_entries part)) ≡ true
part-all k (Look pattern level) h =
    let p = and_parts (eqb k 1) (is_byte pattern && ltb level (2 ^ 31)) h in
    let q = and_parts (is_byte pattern) (ltb level (2 ^ 31)) p.1 in
    packed (part_entries (Look pattern level)) (and_from _ _ q.0 refl, (int32 level, tt))
part-all k (Light exposure iso) h = packed (part_entries (Light exposure iso)) (int64 exposure, (int32 iso, tt))
part-all k (Time timestamp) h = packed (part_entries (Time timestamp)) (int64 timestamp, tt)

pub part-some : (part : PartialResult) → 0 < length (bytes_of (part_entries part))
unfolding bytes_of
part-some part = omega arith
