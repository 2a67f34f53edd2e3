-- The two laws: what is read is spelled so, and what is spelled so is read.
use Rattle.std.proofs.Common.{◌≡◌, ℕ, zero, suc, ◌+◌, ◌*◌, ◌%◌, ◌^◌, ◌<◌, ◌≤◌, Bool, true, false, cond, eqb, ltb, leb, Option, Some, None, Result, Ok, Err, List, [], ◌∷◌, ◌++◌, length, take, drop, refl, ap, sym, subst, ◌∙◌, arith, inl, inr, eq-eqb}
use Rattle.std.specs.Prelude.{◌&&◌, not}
use Rattle.std.specs.Int.{w32, from_le_bytes}
use Rattle.std.specs.List.{AllByRecursion}
use Rattle.std.proofs.lemmas.Bool.{eqb-true, ltb-false, le-ltb, leb-true, le-leb}
use Rattle.std.proofs.lemmas.Bool.Decides.{nat_tests}
use Rattle.std.proofs.lemmas.List.{take_at, drop_at, drop-drop, drop_all, take-append-drop, length-append, length-take, length-drop, nil_from_length}
use Rattle.std.proofs.lemmas.Nat.{from_le_bytes-to_le_bytes_4}
use Rattle.metadata.specs.declared.entry.Entry.{Entry}
use Rattle.metadata.specs.declared.refused.PackedRefused.{PackedRefused}
use Rattle.metadata.specs.declared.refused.PackedRefused.TheVariants.{Short, BadHeader, Overlap}
use Rattle.metadata.specs.Entries.{IsEntry, IsPacked, NumbersFit, ascends_from}
use Rattle.metadata.specs.Values.{payload}
use Rattle.metadata.specs.Spelling.{u32_bytes, rounded, data_of, data_area, entry_bytes, entries_bytes, bytes_of}
use Rattle.metadata.specs.Reading.{◌>>=◌, order_refusal, entry_of, entries_of, is_header, entry_count, area_len, whole_len, version_in, slots_in, area_in, list_of}
use Rattle.metadata.proofs.Bytes.{IsBytes, IsBytes-drop, IsBytes-take}
use Rattle.metadata.proofs.Slots.{u32_takes, Took, entry_takes, entry_holds, entry_again, four_parts, guard_ok, cases_leb, short_is, long_is, length-filled, rounded_up}
use Rattle.metadata.proofs.Loop.{read_from}
use Rattle.basic_lemmas.proofs.Tests.{not-false, and-parts}

-- the least tag that may follow
abbrev pub floor : Option ℕ → ℕ
floor None = 0
floor (Some last) = last + 1

order_from : (tag : ℕ) (last : Option ℕ) → leb (floor last) tag ≡ true → order_refusal tag last ≡ None
order_from tag None h = refl
order_from tag (Some last) h = grind (arith, nat_tests)

order_is : (tag : ℕ) (last : Option ℕ) → order_refusal tag last ≡ None → leb (floor last) tag ≡ true
order_is tag None h = le-leb 0 tag (omega arith)
order_is tag (Some last) h = grind (arith, nat_tests)

bind_ok : {A B : Type 0} (r : Result A PackedRefused) (f : A → Result B PackedRefused) (y : B) → (r >>= f) ≡ Ok y → (x : A) × (r ≡ Ok x) × (f x ≡ Ok y)
bind_ok (Ok x) f y h = (x, refl, h)
bind_ok (Err e) f y h = absurd (cc)

guard_ended : {A : Type 0} (b : Bool) (d : PackedRefused) (x y : A) → cond b (Ok x) (Err d) ≡ Ok y → (b ≡ true) × (x ≡ y)
guard_ended true d x y h = (refl, cc)
guard_ended false d x y h = absurd (cc)

-- what entries took
record Reads (bytes area : List ℕ) (n tiled : ℕ) (last : Option ℕ) (es : List Entry) : Type 0 where
  spelled : bytes ≡ entries_bytes tiled es
  tiles : drop tiled area ≡ data_area es
  count : length es ≡ n
  ascending : ascends_from (floor last) es ≡ true
  each : AllByRecursion IsEntry es
  fit : NumbersFit es

reads_none : (bytes area : List ℕ) (tiled : ℕ) (last : Option ℕ) → length bytes ≡ 0 → length area ≡ tiled → Reads bytes area 0 tiled last []
reads_none bytes area tiled last none all = record {
  spelled = nil_from_length bytes none;
  tiles = drop_all tiled area (omega (arith, all));
  count = refl;
  ascending = refl;
  each = tt;
  fit = tt;
}

reads_more : (bytes area : List ℕ) (n tiled : ℕ) (last : Option ℕ) (x : Entry × ℕ) (es : List Entry) → Took (take 16 bytes) area tiled last x → Reads (drop 16 bytes) area n x.1 (Some x.0.tag) es → Reads bytes area (suc n) tiled last (x.0 ∷ es)
reads_more bytes area n tiled last x es first others = record {
  spelled = sym (take-append-drop 16 bytes) ∙ ap (λ (xs : List ℕ). xs ++ drop 16 bytes) first.bytes ∙ ap (λ (ys : List ℕ). entry_bytes tiled x.0 ++ ys) (others.spelled ∙ ap (λ (k : ℕ). entries_bytes k es) first.end);
  tiles = first.tiles ∙ ap (λ (ys : List ℕ). data_of (payload x.0.values) ++ ys) others.tiles;
  count = ap suc others.count;
  ascending = rw (order_is x.0.tag last first.order) others.ascending;
  each = (first.is, others.each);
  fit = (first.fit, others.fit);
}

entries_take : (n : ℕ) (bytes area : List ℕ) (tiled : ℕ) (last : Option ℕ) (es : List Entry) → length bytes ≡ 16 * n → IsBytes bytes → IsBytes area → tiled ≤ length area → read_from n bytes area tiled last ≡ Ok es → Reads bytes area n tiled last es
unfolding entries_of
entries_take zero bytes area tiled last es len fits area-fits within h =
    let g = guard_ended (eqb (length area) tiled) Overlap [] es h in
    subst (λ (v : List Entry). Reads bytes area 0 tiled last v) g.1 (reads_none bytes area tiled last (omega arith) (eqb-true (length area) tiled g.0))
entries_take (suc n) bytes area tiled last es len fits area-fits within h =
    let a = bind_ok (entry_of (take 16 bytes) area tiled last) (λ first. read_from n (drop 16 bytes) area first.1 (Some first.0.tag) >>= λ others. Ok (first.0 ∷ others)) es h in
    let b = bind_ok (read_from n (drop 16 bytes) area a.0.1 (Some a.0.0.tag)) (λ others. Ok (a.0.0 ∷ others)) es a.2 in
    let first = entry_takes (take 16 bytes) area tiled last a.0 (omega (arith, length-take 16 bytes)) (IsBytes-take 16 bytes fits) area-fits within a.1 in
    let others = entries_take n (drop 16 bytes) area a.0.1 (Some a.0.0.tag) b.0 (omega (arith, length-drop 16 bytes)) (IsBytes-drop 16 bytes fits) area-fits first.within b.1 in
    let es-is : a.0.0 ∷ b.0 ≡ es = cc in
    subst (λ (v : List Entry). Reads bytes area (suc n) tiled last v) es-is (reads_more bytes area n tiled last a.0 b.0 first others)

-- ---- the whole

-- the header's fields and what follows
header_takes : (bytes : List ℕ) → 16 ≤ length bytes → IsBytes bytes
    → bytes ≡ u32_bytes (version_in bytes) ++ (u32_bytes (entry_count bytes) ++ (u32_bytes (area_len bytes) ++ (u32_bytes (whole_len bytes) ++ drop 16 bytes)))
header_takes bytes long fits =
    let a = u32_takes 0 bytes (omega arith) fits in
    let b = u32_takes 4 bytes (omega arith) fits in
    let c = u32_takes 8 bytes (omega arith) fits in
    let d = u32_takes 12 bytes (omega arith) fits in
    a ∙ ap (λ (xs : List ℕ). u32_bytes (version_in bytes) ++ xs) (b ∙ ap (λ (xs : List ℕ). u32_bytes (entry_count bytes) ++ xs) (c ∙ ap (λ (xs : List ℕ). u32_bytes (area_len bytes) ++ xs) d))

spelled_whole : (bytes rest : List ℕ) (v n l w : ℕ) (es : List Entry) → bytes ≡ u32_bytes v ++ (u32_bytes n ++ (u32_bytes l ++ (u32_bytes w ++ rest))) → v ≡ 1 → n ≡ length es → l ≡ length (data_area es)
    → w ≡ 16 + 16 * length es + length (data_area es) → rest ≡ entries_bytes 0 es ++ data_area es → bytes ≡ bytes_of es
unfolding bytes_of
spelled_whole bytes rest v n l w es parts v-is n-is l-is w-is rest-is = parts ∙ rw (v-is, n-is, l-is, w-is, rest-is) refl

record IsHeader (bytes : List ℕ) : Type 0 where
  version : version_in bytes ≡ 1
  few : entry_count bytes ≤ 64
  bounded : area_len bytes ≤ 4096
  whole : whole_len bytes ≡ 16 + 16 * entry_count bytes + area_len bytes

header_is : (bytes : List ℕ) → is_header bytes ≡ true → IsHeader bytes
header_is bytes h =
    let a = and-parts (eqb (version_in bytes) 1) (leb (entry_count bytes) 64 && (eqb (area_len bytes % 8) 0 && (leb (area_len bytes) 4096 && eqb (whole_len bytes) (16 + 16 * entry_count bytes + area_len bytes)))) h in
    let b = and-parts (leb (entry_count bytes) 64) (eqb (area_len bytes % 8) 0 && (leb (area_len bytes) 4096 && eqb (whole_len bytes) (16 + 16 * entry_count bytes + area_len bytes))) a.1 in
    let c = and-parts (eqb (area_len bytes % 8) 0) (leb (area_len bytes) 4096 && eqb (whole_len bytes) (16 + 16 * entry_count bytes + area_len bytes)) b.1 in
    let d = and-parts (leb (area_len bytes) 4096) (eqb (whole_len bytes) (16 + 16 * entry_count bytes + area_len bytes)) c.1 in
    record {
      version = eqb-true (version_in bytes) 1 a.0;
      few = leb-true (entry_count bytes) 64 b.0;
      bounded = leb-true (area_len bytes) 4096 d.0;
      whole = eqb-true (whole_len bytes) (16 + 16 * entry_count bytes + area_len bytes) d.1;
    }

whole_takes : (bytes : List ℕ) (es : List Entry) → IsBytes bytes → IsHeader bytes → length bytes ≡ whole_len bytes → entries_of (slots_in bytes) (area_in bytes) 0 None ≡ Ok es → (bytes ≡ bytes_of es) × IsPacked es × NumbersFit es
whole_takes bytes es fits header len h =
    let n = entry_count bytes in
    let body = drop 16 bytes in
    let long : 16 ≤ length bytes = omega (arith, header.whole) in
    let slots : length (take (16 * n) body) ≡ 16 * n = omega (arith, header.whole, length-take (16 * n) body, length-drop 16 bytes) in
    let left : length (drop (16 * n) body) ≡ area_len bytes = omega (arith, header.whole, length-drop (16 * n) body, length-drop 16 bytes) in
    let body-fits = IsBytes-drop 16 bytes fits in
    let reads = entries_take n (take (16 * n) body) (drop (16 * n) body) 0 None es slots (IsBytes-take (16 * n) body body-fits) (IsBytes-drop (16 * n) body body-fits) (omega arith) h in
    let area : length (data_area es) ≡ area_len bytes = ap length (sym reads.tiles) ∙ left in
    let rest : body ≡ entries_bytes 0 es ++ data_area es = sym (take-append-drop (16 * n) body) ∙ ap (λ (xs : List ℕ). xs ++ drop (16 * n) body) reads.spelled ∙ ap (λ (ys : List ℕ). entries_bytes 0 es ++ ys) reads.tiles in (
      spelled_whole bytes body (version_in bytes) n (area_len bytes) (whole_len bytes) es (header_takes bytes long fits) header.version (sym reads.count) (sym area) (omega (arith, header.whole, reads.count, area)) rest,
      record { ascending = reads.ascending; entries = omega (arith, reads.count, header.few); area = omega (arith, area, header.bounded); each = reads.each },
      reads.fit,
    )

pub all_takes : (bytes : List ℕ) (es : List Entry) → IsBytes bytes → list_of bytes ≡ Ok es → (bytes ≡ bytes_of es) × IsPacked es × NumbersFit es
unfolding list_of
all_takes bytes es fits h =
    let read = entries_of (slots_in bytes) (area_in bytes) 0 None in
    let d = cond (ltb (whole_len bytes) (length bytes)) (Err BadHeader) read in
    let c = cond (ltb (length bytes) (whole_len bytes)) (Err Short) d in
    let b = cond (not (is_header bytes)) (Err BadHeader) c in
    let one = guard_ok (ltb (length bytes) 16) Short b es h in
    let two = guard_ok (not (is_header bytes)) BadHeader c es one.1 in
    let three = guard_ok (ltb (length bytes) (whole_len bytes)) Short d es two.1 in
    let four = guard_ok (ltb (whole_len bytes) (length bytes)) BadHeader read es three.1 in
    let no_less = ltb-false (length bytes) (whole_len bytes) three.0 in
    let no_more = ltb-false (whole_len bytes) (length bytes) four.0 in
    whole_takes bytes es fits (header_is bytes (not-false (is_header bytes) two.0)) (omega (arith, no_less, no_more)) four.1

-- ---- what is written is read

entries_again : (es : List Entry) (area : List ℕ) (tiled : ℕ) (last : Option ℕ) → AllByRecursion IsEntry es → NumbersFit es → ascends_from (floor last) es ≡ true → drop tiled area ≡ data_area es → tiled + length (data_area es) ≡ length area
    → length area < 2 ^ 32 → read_from (length es) (entries_bytes tiled es) area tiled last ≡ Ok es
unfolding entries_of
entries_again [] area tiled last each fit ascending tiles ends small = let all : length area ≡ tiled = omega arith in rw (eq-eqb (length area) tiled all) refl
entries_again (e ∷ es) area tiled last each fit ascending tiles ends small =
    let p = payload e.values in
    let next = tiled + length (data_of p) in
    let order = and-parts (leb (floor last) e.tag) (ascends_from (e.tag + 1) es) ascending in
    let sum = length-append (data_of p) (data_area es) in
    let here = entry_again area (data_area es) tiled last e each.0 fit.0 (order_from e.tag last order.0) (omega (arith, sum)) tiles (omega (arith, sum)) in
    let left : drop next area ≡ data_area es = sym (drop-drop (length (data_of p)) tiled area) ∙ ap (drop (length (data_of p))) tiles ∙ drop_at (data_of p) (data_area es) (length (data_of p)) refl in
    let others = entries_again es area next (Some e.tag) each.1 fit.1 order.1 left (omega (arith, sum)) small in
    let len = (entry_holds tiled e each.0).len in
    rw (take_at (entry_bytes tiled e) (entries_bytes next es) 16 len, drop_at (entry_bytes tiled e) (entries_bytes next es) 16 len, here, others) refl

-- the data area has a multiple of eight bytes
data_multiple : (p : List ℕ) → length (data_of p) % 8 ≡ 0
data_multiple p =
    elim (cases_leb (length p) 4) [
      | inl short ↦ ap (λ (xs : List ℕ). length xs % 8) (short_is p short 0).1
      | inr long ↦ (let len : length (data_of p) ≡ rounded (length p) = ap length (long_is p long 0).1 ∙ length-filled (rounded (length p)) p (rounded_up (length p)) in rw len (omega arith))
    ]

area_multiple : (es : List Entry) → length (data_area es) % 8 ≡ 0
area_multiple [] = refl
area_multiple (e ∷ es) = let here = data_multiple (payload e.values) in let others = area_multiple es in let sum = length-append (data_of (payload e.values)) (data_area es) in omega (arith, here, others, sum)

-- what is read at the places of a header that is written
record Heads (bytes rest : List ℕ) (es : List Entry) : Type 0 where
  version : version_in bytes ≡ 1
  count : entry_count bytes ≡ length es
  area : area_len bytes ≡ length (data_area es)
  whole : whole_len bytes ≡ 16 + 16 * length es + length (data_area es)
  body : drop 16 bytes ≡ rest

heads_parts : (bytes a b c d rest : List ℕ) (es : List Entry) → bytes ≡ a ++ (b ++ (c ++ (d ++ rest))) → a ≡ u32_bytes 1 → b ≡ u32_bytes (length es) → c ≡ u32_bytes (length (data_area es)) → d ≡ u32_bytes (16 + 16 * length es + length (data_area es))
    → length es ≤ 64 → length (data_area es) ≤ 4096 → Heads bytes rest es
heads_parts bytes a b c d rest es bytes-is a-is b-is c-is d-is few bounded =
    let parts = four_parts a b c (d ++ rest) (ap length a-is) (ap length b-is) (ap length c-is) in
    let four : length d ≡ 4 = ap length d-is in
    let twelve : drop 12 bytes ≡ d ++ rest = ap (drop 12) bytes-is ∙ parts.3 in
    record {
      version = ap (λ (s : List ℕ). version_in s) bytes-is ∙ ap (from_le_bytes w32) (parts.0 ∙ a-is);
      count = ap (λ (s : List ℕ). entry_count s) bytes-is ∙ ap (from_le_bytes w32) (parts.1 ∙ b-is) ∙ from_le_bytes-to_le_bytes_4 (length es) (omega arith);
      area = ap (λ (s : List ℕ). area_len s) bytes-is ∙ ap (from_le_bytes w32) (parts.2 ∙ c-is) ∙ from_le_bytes-to_le_bytes_4 (length (data_area es)) (omega arith);
      whole = ap (λ (s : List ℕ). from_le_bytes w32 (take 4 s)) twelve ∙ ap (from_le_bytes w32) (take_at d rest 4 four ∙ d-is) ∙ from_le_bytes-to_le_bytes_4 (16 + 16 * length es + length (data_area es)) (omega arith);
      body = sym (drop-drop 4 12 bytes) ∙ ap (drop 4) twelve ∙ drop_at d rest 4 four;
    }

heads : (es : List Entry) → length es ≤ 64 → length (data_area es) ≤ 4096 → Heads (bytes_of es) (entries_bytes 0 es ++ data_area es) es
unfolding bytes_of
heads es few bounded = heads_parts (bytes_of es) (u32_bytes 1) (u32_bytes (length es)) (u32_bytes (length (data_area es))) (u32_bytes (16 + 16 * length es + length (data_area es))) (entries_bytes 0 es ++ data_area es) es refl refl refl refl refl few bounded

length-entries_bytes : (es : List Entry) (place : ℕ) → AllByRecursion IsEntry es → length (entries_bytes place es) ≡ 16 * length es
length-entries_bytes [] place each = omega arith
length-entries_bytes (e ∷ es) place each =
    let next = place + length (data_of (payload e.values)) in
    omega (arith, length-append (entry_bytes place e) (entries_bytes next es), (entry_holds place e each.0).len, length-entries_bytes es next each.1)

whole_again : (bytes : List ℕ) (es : List Entry) → Heads bytes (entries_bytes 0 es ++ data_area es) es → IsPacked es → NumbersFit es → length bytes ≡ whole_len bytes → list_of bytes ≡ Ok es
unfolding list_of
whole_again bytes es head packed fit len =
    let slots = entries_bytes 0 es in
    let area = data_area es in
    let slots-len : length slots ≡ 16 * length es = length-entries_bytes es 0 packed.each in
    let multiple : length area % 8 ≡ 0 = area_multiple es in
    let header : is_header bytes ≡ true = rw (head.version, head.count, head.area, head.whole, le-leb (length es) 64 packed.entries, multiple, le-leb (length area) 4096 packed.area, eq-eqb (16 + 16 * length es + length area) (16 + 16 * length es + length area) refl) refl in
    let long : ltb (length bytes) 16 ≡ false = le-ltb (length bytes) 16 (omega (arith, head.whole)) in
    let no_less : ltb (length bytes) (whole_len bytes) ≡ false = le-ltb (length bytes) (whole_len bytes) (omega arith) in
    let no_more : ltb (whole_len bytes) (length bytes) ≡ false = le-ltb (whole_len bytes) (length bytes) (omega arith) in
    let front : take (16 * entry_count bytes) (drop 16 bytes) ≡ slots = ap (λ (n : ℕ). take (16 * n) (drop 16 bytes)) head.count ∙ ap (take (16 * length es)) head.body ∙ take_at slots area (16 * length es) slots-len in
    let back : area_in bytes ≡ area = ap (λ (n : ℕ). drop (16 * n) (drop 16 bytes)) head.count ∙ ap (drop (16 * length es)) head.body ∙ drop_at slots area (16 * length es) slots-len in
    let read : entries_of (slots_in bytes) (area_in bytes) 0 None ≡ Ok es = rw (front, back, head.count) (entries_again es area 0 None packed.each fit packed.ascending refl (omega arith) (omega (arith, packed.area))) in
    rw (long, header, no_less, no_more, read) refl

length-bytes_of : (es : List Entry) → length (bytes_of es) ≡ 16 + length (entries_bytes 0 es ++ data_area es)
unfolding bytes_of
length-bytes_of es = omega arith

pub all_again : (es : List Entry) → IsPacked es → NumbersFit es → list_of (bytes_of es) ≡ Ok es
all_again es packed fit =
    let h = heads es packed.entries packed.area in
    let len : length (bytes_of es) ≡ whole_len (bytes_of es) = omega (arith, h.whole, length-bytes_of es, length-append (entries_bytes 0 es) (data_area es), length-entries_bytes es 0 packed.each) in
    whole_again (bytes_of es) es h packed fit len
