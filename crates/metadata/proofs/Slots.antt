-- The bytes of an entry: what is read in them is what is written in them.
use Rattle.std.proofs.Common.{◌≡◌, ℕ, zero, suc, ◌+◌, ◌-◌, ◌*◌, ◌^◌, ◌<◌, ◌≤◌, Bool, true, false, cond, eqb, ltb, leb, Option, Some, None, Result, Ok, Err, List, [], ◌∷◌, ◌++◌, length, take, drop, get_or, replicate, refl, ap, sym, subst, ◌∙◌, arith, inl, inr, eq-eqb}
use Rattle.std.specs.Prelude.{◌⊎◌, ◌&&◌, ◌||◌, not}
use Rattle.std.specs.Int.{w32, from_le_bytes}
use Rattle.std.proofs.lemmas.Bool.{eqb-true, false≢true, true≢false, ltb-false, leb-true, leb-false, le-leb, lt-leb}
use Rattle.std.proofs.lemmas.Bool.Decides.{nat_tests}
use Rattle.std.proofs.lemmas.List.{take_at, drop_at, drop-drop, take-append-drop, take_all, drop_more, length-append, length-take, length-drop, length-replicate, get_or-drop}
use Rattle.std.proofs.lemmas.Nat.{le_bytes_4, from_le_bytes-to_le_bytes_4}
use Rattle.metadata.specs.declared.element.ElementType.{ElementType}
use Rattle.metadata.specs.declared.entry.Entry.{Entry}
use Rattle.metadata.specs.declared.refused.PackedRefused.{PackedRefused}
use Rattle.metadata.specs.declared.refused.PackedRefused.TheVariants.{BadType, BadCount}
use Rattle.metadata.specs.declared.values.Values.{Values}
use Rattle.metadata.specs.Entries.{IsEntry}
use Rattle.metadata.specs.Values.{type_number, type_numbered, type_of, count_of, element_len, payload, values_from, ValuesFit}
use Rattle.metadata.specs.Spelling.{u32_bytes, rounded, filled, is_short, data_of, field_of, entry_bytes}
use Rattle.metadata.specs.Reading.{u32_at, all_zero, tag_in, count_in, field_in, place_in, type_in, reserved_in, payload_before_zeros, with_end, payload_at, order_refusal, unless, placed_entry, typed_entry, entry_of}
use Rattle.metadata.proofs.Bytes.{IsBytes, IsBytes-drop, IsBytes-take}
use Rattle.metadata.proofs.Payload.{AreFrom, values_from-are, values_again, numbered, numbered_again, length-payload}
use Rattle.basic_lemmas.proofs.Tests.{not-false, and-parts}

-- ---- numbers of four bytes

pub u32_takes : (place : ℕ) (bytes : List ℕ) → place + 4 ≤ length bytes → IsBytes bytes → drop place bytes ≡ u32_bytes (u32_at place bytes) ++ drop (place + 4) bytes
u32_takes place bytes long fits =
    let four : length (take 4 (drop place bytes)) ≡ 4 = omega (arith, length-take 4 (drop place bytes), length-drop place bytes) in
    let front = le_bytes_4 (take 4 (drop place bytes)) _ four (IsBytes-take 4 (drop place bytes) (IsBytes-drop place bytes fits)) refl in
    sym (take-append-drop 4 (drop place bytes)) ∙ ap (λ (ys : List ℕ). take 4 (drop place bytes) ++ ys) (drop-drop 4 place bytes) ∙ ap (λ (xs : List ℕ). xs ++ drop (place + 4) bytes) (sym front)

pub u32_below : (place : ℕ) (bytes : List ℕ) → IsBytes bytes → u32_at place bytes < 2 ^ 32
u32_below place bytes fits =
    let four = IsBytes-take 4 (drop place bytes) (IsBytes-drop place bytes fits) in
    omega (arith, four 0, four 1, four 2, four 3)

-- ---- tests that came out

pub some_guard : {A : Type 0} (b : Bool) (x y : A) → cond b (Some x) None ≡ Some y → (b ≡ true) × (x ≡ y)
some_guard true x y h = (refl, cc)
some_guard false x y h = absurd (cc)

pub chosen : {A : Type 0} (b : Bool) (x y z : A) → cond b x y ≡ z → ((b ≡ true) × (x ≡ z)) ⊎ ((b ≡ false) × (y ≡ z))
chosen true x y z h = inl (refl, h)
chosen false x y z h = inr (refl, h)

pub cases_leb : (a b : ℕ) → (leb a b ≡ true) ⊎ (leb a b ≡ false)
cases_leb a b = elim (leb a b) as (λ v. (v ≡ true) ⊎ (v ≡ false)) [ true ↦ inl refl | false ↦ inr refl ]

-- ---- zeros

pub zeros : (bytes : List ℕ) → all_zero bytes ≡ true → bytes ≡ replicate (length bytes) 0
zeros [] h = refl
zeros (b ∷ bytes) h =
    let parts = and-parts (eqb b 0) (all_zero bytes) h in
    ap (λ (x : ℕ). x ∷ bytes) (eqb-true b 0 parts.0) ∙ ap (λ (xs : List ℕ). 0 ∷ xs) (zeros bytes parts.1)

pub all_zero-replicate : (n : ℕ) → all_zero (replicate n 0) ≡ true
all_zero-replicate zero = refl
all_zero-replicate (suc n) = all_zero-replicate n

-- what stands in front of zeros, filled up with them
pub before_zeros_take : (size : ℕ) (bytes found : List ℕ) → size ≤ length bytes → payload_before_zeros size bytes ≡ Some found → (bytes ≡ filled (length bytes) found) × (length found ≡ size) × (take size bytes ≡ found)
unfolding payload_before_zeros
before_zeros_take size bytes found long h =
    let g = some_guard (all_zero (drop size bytes)) (take size bytes) found h in
    let len : length (take size bytes) ≡ size = omega (arith, length-take size bytes) in
    let left : length (drop size bytes) ≡ length bytes - length (take size bytes) = omega (arith, len, length-drop size bytes) in
    let rest : drop size bytes ≡ replicate (length bytes - length (take size bytes)) 0 = zeros (drop size bytes) g.0 ∙ ap (λ (n : ℕ). replicate n 0) left in
    let whole : bytes ≡ filled (length bytes) (take size bytes) = sym (take-append-drop size bytes) ∙ ap (λ (ys : List ℕ). take size bytes ++ ys) rest in
    subst (λ (f : List ℕ). (bytes ≡ filled (length bytes) f) × (length f ≡ size) × (take size bytes ≡ f)) g.1 (whole, len, refl)

pub before_zeros_again : (len : ℕ) (found : List ℕ) → length found ≤ len → payload_before_zeros (length found) (filled len found) ≡ Some found
unfolding payload_before_zeros
before_zeros_again len found long = rw (drop_at found (replicate (len - length found) 0) (length found) refl, all_zero-replicate (len - length found), take_at found (replicate (len - length found) 0) (length found) refl) refl

pub length-filled : (len : ℕ) (bytes : List ℕ) → length bytes ≤ len → length (filled len bytes) ≡ len
length-filled len bytes long = omega (arith, length-append bytes (replicate (len - length bytes) 0), length-replicate {A = ℕ} (len - length bytes) 0)

pub rounded_up : (n : ℕ) → n ≤ rounded n
rounded_up n = omega arith

-- ---- the payload

abbrev pub short_is : (p : List ℕ) → is_short p ≡ true → (place : ℕ) → (field_of place p ≡ filled 4 p) × (data_of p ≡ [])
short_is p h place = (rw h refl, rw h refl)

abbrev pub long_is : (p : List ℕ) → is_short p ≡ false → (place : ℕ) → (field_of place p ≡ u32_bytes place) × (data_of p ≡ filled (rounded (length p)) p)
long_is p h place = (rw h refl, rw h refl)

with_end_some : (end : ℕ) (o : Option (List ℕ)) (p : List ℕ × ℕ) → with_end end o ≡ Some p → (o ≡ Some p.0) × (end ≡ p.1)
with_end_some end None p h = absurd (cc)
with_end_some end (Some bytes) p h =
    let e : (bytes, end) ≡ p = cc in
    (ap (λ (q : List ℕ × ℕ). Some q.0) e, ap (λ (q : List ℕ × ℕ). q.1) e)

-- what a payload took
pub record Takes (slot area : List ℕ) (size tiled : ℕ) (p : List ℕ × ℕ) : Type 0 where
  pub len : length p.0 ≡ size
  pub field : field_in slot ≡ field_of tiled p.0
  pub tiles : drop tiled area ≡ data_of p.0 ++ drop p.1 area
  pub end : p.1 ≡ tiled + length (data_of p.0)
  pub within : p.1 ≤ length area
  pub bytes : IsBytes p.0

short_takes : (slot area : List ℕ) (size tiled : ℕ) (p : List ℕ × ℕ) → length slot ≡ 16 → IsBytes slot → tiled ≤ length area → size ≤ 4
    → payload_before_zeros size (field_in slot) ≡ Some p.0 → tiled ≡ p.1 → Takes slot area size tiled p
short_takes slot area size tiled p slot-len slot-fits within short h end =
    let four : length (field_in slot) ≡ 4 = omega (arith, length-take 4 (drop 8 slot), length-drop 8 slot) in
    let field-fits = IsBytes-take 4 (drop 8 slot) (IsBytes-drop 8 slot slot-fits) in
    let t = before_zeros_take size (field_in slot) p.0 (omega arith) h in
    let is : is_short p.0 ≡ true = le-leb (length p.0) 4 (omega (arith, t.1)) in
    let parts = short_is p.0 is tiled in
    let full : field_in slot ≡ filled 4 p.0 = t.0 ∙ ap (λ (n : ℕ). filled n p.0) four in
    record {
      len = t.1;
      field = full ∙ sym parts.0;
      tiles = rw (parts.1, ← end) refl;
      end = rw parts.1 (omega arith);
      within = omega arith;
      bytes = subst IsBytes t.2 (IsBytes-take size (field_in slot) field-fits);
    }

long_takes : (slot area : List ℕ) (size tiled : ℕ) (p : List ℕ × ℕ) → length slot ≡ 16 → IsBytes slot → IsBytes area → 4 < size → place_in slot ≡ tiled → tiled + rounded size ≤ length area
    → payload_before_zeros size (take (rounded size) (drop tiled area)) ≡ Some p.0 → tiled + rounded size ≡ p.1 → Takes slot area size tiled p
long_takes slot area size tiled p slot-len slot-fits area-fits long place within h end =
    let r = rounded size in
    let up = rounded_up size in
    let span : length (take r (drop tiled area)) ≡ r = omega (arith, length-take r (drop tiled area), length-drop tiled area) in
    let t = before_zeros_take size (take r (drop tiled area)) p.0 (omega (arith, span, up)) h in
    let is : is_short p.0 ≡ false = lt-leb (length p.0) 4 (omega (arith, t.1)) in
    let parts = long_is p.0 is tiled in
    let full : take r (drop tiled area) ≡ data_of p.0 = t.0 ∙ ap (λ (n : ℕ). filled n p.0) span ∙ ap (λ (n : ℕ). filled (rounded n) p.0) (sym t.1) ∙ sym parts.1 in
    let four : length (take 4 (drop 8 slot)) ≡ 4 = omega (arith, length-take 4 (drop 8 slot), length-drop 8 slot) in
    let read = le_bytes_4 (take 4 (drop 8 slot)) _ four (IsBytes-take 4 (drop 8 slot) (IsBytes-drop 8 slot slot-fits)) refl in
    record {
      len = t.1;
      field = sym read ∙ ap u32_bytes place ∙ sym parts.0;
      tiles = sym (take-append-drop r (drop tiled area)) ∙ ap (λ (xs : List ℕ). xs ++ drop r (drop tiled area)) full ∙ ap (λ (ys : List ℕ). data_of p.0 ++ ys) (drop-drop r tiled area ∙ ap (λ (n : ℕ). drop n area) end);
      end = omega (arith, end, ap length full, span);
      within = omega arith;
      bytes = subst IsBytes t.2 (IsBytes-take size (take r (drop tiled area)) (IsBytes-take r (drop tiled area) (IsBytes-drop tiled area area-fits)));
    }

pub payload_takes : (slot area : List ℕ) (size tiled : ℕ) (p : List ℕ × ℕ) → length slot ≡ 16 → IsBytes slot → IsBytes area → tiled ≤ length area → payload_at slot size area tiled ≡ Some p → Takes slot area size tiled p
unfolding payload_at
payload_takes slot area size tiled p slot-len slot-fits area-fits within h =
    elim (chosen (leb size 4) (with_end tiled (payload_before_zeros size (field_in slot))) (cond (eqb (place_in slot) tiled && leb (tiled + rounded size) (length area)) (with_end (tiled + rounded size) (payload_before_zeros size (take (rounded size) (drop tiled area)))) None) (Some p) h) [
      | inl short ↦ (let w = with_end_some tiled (payload_before_zeros size (field_in slot)) p short.1 in short_takes slot area size tiled p slot-len slot-fits within (leb-true size 4 short.0) w.0 w.1)
      | inr long ↦ elim (chosen (eqb (place_in slot) tiled && leb (tiled + rounded size) (length area)) (with_end (tiled + rounded size) (payload_before_zeros size (take (rounded size) (drop tiled area)))) None (Some p) long.1) [
        | inl placed ↦ (let tests = and-parts (eqb (place_in slot) tiled) (leb (tiled + rounded size) (length area)) placed.0 in
            let w = with_end_some (tiled + rounded size) (payload_before_zeros size (take (rounded size) (drop tiled area))) p placed.1 in
            long_takes slot area size tiled p slot-len slot-fits area-fits (leb-false size 4 long.0) (eqb-true (place_in slot) tiled tests.0) (leb-true (tiled + rounded size) (length area) tests.1) w.0 w.1)
        | inr bad ↦ absurd (cc)
      ]
    ]

short_again : (slot area found : List ℕ) (tiled : ℕ) → is_short found ≡ true → field_in slot ≡ field_of tiled found → payload_at slot (length found) area tiled ≡ Some (found, tiled + length (data_of found))
unfolding payload_at
short_again slot area found tiled is field =
    let parts = short_is found is tiled in
    let end : tiled + length (data_of found) ≡ tiled = rw parts.1 (omega arith) in
    let full : field_in slot ≡ filled 4 found = field ∙ parts.0 in
    rw (end, is, full, before_zeros_again 4 found (leb-true (length found) 4 is)) refl

long_again : (slot area found rest : List ℕ) (tiled : ℕ) → is_short found ≡ false → field_in slot ≡ field_of tiled found → tiled < 2 ^ 32 → drop tiled area ≡ data_of found ++ rest → tiled + length (data_of found) ≤ length area
    → payload_at slot (length found) area tiled ≡ Some (found, tiled + length (data_of found))
unfolding payload_at
long_again slot area found rest tiled is field small tiles within =
    let r = rounded (length found) in
    let up = rounded_up (length found) in
    let parts = long_is found is tiled in
    let place : place_in slot ≡ tiled = ap (from_le_bytes w32) (field ∙ parts.0) ∙ from_le_bytes-to_le_bytes_4 tiled small in
    let len : length (data_of found) ≡ r = ap length parts.1 ∙ length-filled r found up in
    let span : take r (drop tiled area) ≡ filled r found = ap (take r) tiles ∙ take_at (data_of found) rest r len ∙ parts.1 in
    let tests : (eqb (place_in slot) tiled && leb (tiled + r) (length area)) ≡ true = rw (eq-eqb (place_in slot) tiled place, le-leb (tiled + r) (length area) (omega (arith, len))) refl in
    rw (len, is, tests, span, before_zeros_again r found up) refl

pub payload_again : (slot area found rest : List ℕ) (tiled : ℕ) → field_in slot ≡ field_of tiled found → tiled < 2 ^ 32 → drop tiled area ≡ data_of found ++ rest → tiled + length (data_of found) ≤ length area
    → payload_at slot (length found) area tiled ≡ Some (found, tiled + length (data_of found))
payload_again slot area found rest tiled field small tiles within =
    elim (cases_leb (length found) 4) [
      | inl short ↦ short_again slot area found tiled short field
      | inr long ↦ long_again slot area found rest tiled long field small tiles within
    ]

-- ---- an entry that is read

pub guard_ok : {A : Type 0} (b : Bool) (d : PackedRefused) (r : Result A PackedRefused) (y : A) → cond b (Err d) r ≡ Ok y → (b ≡ false) × (r ≡ Ok y)
guard_ok true d r y h = absurd (cc)
guard_ok false d r y h = (refl, h)

pub or_parts : (a b : Bool) → (a || b) ≡ false → (a ≡ false) × (b ≡ false)
or_parts true b h = absurd (true≢false h)
or_parts false b h = (refl, h)

unless_ok : {A : Type 0} (o : Option PackedRefused) (x y : A) → unless o x ≡ Ok y → (o ≡ None) × (x ≡ y)
unless_ok None x y h = (refl, cc)
unless_ok (Some e) x y h = absurd (cc)

-- what an entry took
pub record Took (slot area : List ℕ) (tiled : ℕ) (last : Option ℕ) (x : Entry × ℕ) : Type 0 where
  pub bytes : slot ≡ entry_bytes tiled x.0
  pub tiles : drop tiled area ≡ data_of (payload x.0.values) ++ drop x.1 area
  pub end : x.1 ≡ tiled + length (data_of (payload x.0.values))
  pub within : x.1 ≤ length area
  pub order : order_refusal x.0.tag last ≡ None
  pub is : IsEntry x.0
  pub fit : ValuesFit x.0.values

-- the parts of 16 bytes
slot_parts : (slot : List ℕ) (n : ℕ) → length slot ≡ 16 → IsBytes slot → get_or slot 12 0 ≡ n → all_zero (reserved_in slot) ≡ true
    → slot ≡ u32_bytes (tag_in slot) ++ (u32_bytes (count_in slot) ++ (field_in slot ++ n ∷ 0 ∷ 0 ∷ 0 ∷ []))
slot_parts slot n len fits kind blank =
    let tag = u32_takes 0 slot (omega arith) fits in
    let count = u32_takes 4 slot (omega arith) fits in
    let field : drop 8 slot ≡ field_in slot ++ drop 12 slot = sym (take-append-drop 4 (drop 8 slot)) ∙ ap (λ (ys : List ℕ). field_in slot ++ ys) (drop-drop 4 8 slot) in
    let number : drop 12 slot ≡ n ∷ drop 13 slot = drop_more slot 12 0 (omega arith) ∙ ap (λ (m : ℕ). m ∷ drop 13 slot) kind in
    let three : length (drop 13 slot) ≡ 3 = omega (arith, length-drop 13 slot) in
    let whole : take 3 (drop 13 slot) ≡ drop 13 slot = take_all 3 (drop 13 slot) (omega (arith, three)) in
    let ends : drop 13 slot ≡ 0 ∷ 0 ∷ 0 ∷ [] = zeros (drop 13 slot) (ap all_zero (sym whole) ∙ blank) ∙ ap (λ (k : ℕ). replicate k 0) three in
    tag ∙ ap (λ (xs : List ℕ). u32_bytes (tag_in slot) ++ xs) (count ∙ ap (λ (xs : List ℕ). u32_bytes (count_in slot) ++ xs) (field ∙ ap (λ (xs : List ℕ). field_in slot ++ xs) (number ∙ ap (λ (xs : List ℕ). n ∷ xs) ends)))

spelled : (slot field p : List ℕ) (tag count tiled : ℕ) (t : ElementType) (v : Values) → slot ≡ u32_bytes tag ++ (u32_bytes count ++ (field ++ type_number t ∷ 0 ∷ 0 ∷ 0 ∷ [])) → field ≡ field_of tiled p → AreFrom t count p v
    → slot ≡ entry_bytes tiled (record { tag = tag; values = v })
unfolding entry_bytes
spelled slot field p tag count tiled t v parts field-is are = rw (are.many, are.spelled, are.kind, ← field-is) parts

placed_takes : (slot area : List ℕ) (tiled : ℕ) (last : Option ℕ) (t : ElementType) (p : List ℕ × ℕ) (x : Entry × ℕ) → length slot ≡ 16 → IsBytes slot → type_in slot ≡ Some t → all_zero (reserved_in slot) ≡ true
    → 0 < count_in slot → count_in slot ≤ 1024 → Takes slot area (count_in slot * element_len t) tiled p → placed_entry (Some p) t slot last ≡ Ok x → Took slot area tiled last x
placed_takes slot area tiled last t p x len fits kind blank some few takes h =
    let v = values_from t (count_in slot) p.0 in
    let made : Entry × ℕ = (record { tag = tag_in slot; values = v }, p.1) in
    let u = unless_ok (order_refusal (tag_in slot) last) made x h in
    let are = values_from-are t (count_in slot) p.0 takes.len takes.bytes in
    let parts = slot_parts slot (type_number t) len fits (numbered (get_or slot 12 0) t kind) blank in
    subst (Took slot area tiled last) u.1 (record {
      bytes = spelled slot (field_in slot) p.0 (tag_in slot) (count_in slot) tiled t v parts takes.field are;
      tiles = rw are.spelled takes.tiles;
      end = rw are.spelled takes.end;
      within = takes.within;
      order = u.0;
      is = record { tag = u32_below 0 slot fits; some = rw are.many some; few = rw are.many few };
      fit = are.fit;
    })

placed_some : (slot area : List ℕ) (tiled : ℕ) (last : Option ℕ) (t : ElementType) (o : Option (List ℕ × ℕ)) (x : Entry × ℕ) → length slot ≡ 16 → IsBytes slot → IsBytes area → tiled ≤ length area → type_in slot ≡ Some t → all_zero (reserved_in slot) ≡ true
    → 0 < count_in slot → count_in slot ≤ 1024 → payload_at slot (count_in slot * element_len t) area tiled ≡ o → placed_entry o t slot last ≡ Ok x → Took slot area tiled last x
placed_some slot area tiled last t None x len fits area-fits within kind blank some few o-is h = absurd (cc)
placed_some slot area tiled last t (Some p) x len fits area-fits within kind blank some few o-is h =
    placed_takes slot area tiled last t p x len fits kind blank some few (payload_takes slot area (count_in slot * element_len t) tiled p len fits area-fits within o-is) h

typed_takes : (slot area : List ℕ) (tiled : ℕ) (last : Option ℕ) (x : Entry × ℕ) → length slot ≡ 16 → IsBytes slot → IsBytes area → tiled ≤ length area → (o : Option ElementType) → type_in slot ≡ o → typed_entry o slot area tiled last ≡ Ok x
    → Took slot area tiled last x
typed_takes slot area tiled last x len fits area-fits within None kind h = absurd (cc)
typed_takes slot area tiled last x len fits area-fits within (Some t) kind h =
    let placed = placed_entry (payload_at slot (count_in slot * element_len t) area tiled) t slot last in
    let a = guard_ok (not (all_zero (reserved_in slot))) BadType (cond (eqb (count_in slot) 0 || ltb 1024 (count_in slot)) (Err BadCount) placed) x h in
    let b = guard_ok (eqb (count_in slot) 0 || ltb 1024 (count_in slot)) BadCount placed x a.1 in
    let counts = or_parts (eqb (count_in slot) 0) (ltb 1024 (count_in slot)) b.0 in
    let some : 0 < count_in slot = grind (arith, nat_tests) in
    placed_some slot area tiled last t (payload_at slot (count_in slot * element_len t) area tiled) x len fits area-fits within kind (not-false (all_zero (reserved_in slot)) a.0) some (ltb-false 1024 (count_in slot) counts.1) refl b.1

pub entry_takes : (slot area : List ℕ) (tiled : ℕ) (last : Option ℕ) (x : Entry × ℕ) → length slot ≡ 16 → IsBytes slot → IsBytes area → tiled ≤ length area → entry_of slot area tiled last ≡ Ok x → Took slot area tiled last x
unfolding entry_of
entry_takes slot area tiled last x len fits area-fits within h = typed_takes slot area tiled last x len fits area-fits within (type_in slot) refl h

-- ---- an entry that is written

pub four_parts : (a b c d : List ℕ) → length a ≡ 4 → length b ≡ 4 → length c ≡ 4 →
    let s : List ℕ = a ++ (b ++ (c ++ d)) in (take 4 (drop 0 s) ≡ a) × (take 4 (drop 4 s) ≡ b) × (take 4 (drop 8 s) ≡ c) × (drop 12 s ≡ d)
four_parts a b c d la lb lc =
    let s : List ℕ = a ++ (b ++ (c ++ d)) in
    let four : drop 4 s ≡ b ++ (c ++ d) = drop_at a (b ++ (c ++ d)) 4 la in
    let eight : drop 8 s ≡ c ++ d = sym (drop-drop 4 4 s) ∙ ap (drop 4) four ∙ drop_at b (c ++ d) 4 lb in
    let twelve : drop 12 s ≡ d = sym (drop-drop 4 8 s) ∙ ap (drop 4) eight ∙ drop_at c d 4 lc in
    (take_at a (b ++ (c ++ d)) 4 la, ap (take 4) four ∙ take_at b (c ++ d) 4 lb, ap (take 4) eight ∙ take_at c d 4 lc, twelve)

length-field_of : (place : ℕ) (p : List ℕ) → length (field_of place p) ≡ 4
length-field_of place p =
    elim (cases_leb (length p) 4) [
      | inl short ↦ ap length (short_is p short place).0 ∙ length-filled 4 p (leb-true (length p) 4 short)
      | inr long ↦ ap length (long_is p long place).0
    ]

-- what is read in 16 bytes that are an entry's
pub record Holds (slot : List ℕ) (tiled : ℕ) (e : Entry) : Type 0 where
  pub len : length slot ≡ 16
  pub tag : tag_in slot ≡ e.tag
  pub count : count_in slot ≡ count_of e.values
  pub field : field_in slot ≡ field_of tiled (payload e.values)
  pub kind : type_in slot ≡ Some (type_of e.values)
  pub blank : all_zero (reserved_in slot) ≡ true

holds_parts : (slot a b f : List ℕ) (n tiled : ℕ) (e : Entry) → slot ≡ a ++ (b ++ (f ++ n ∷ 0 ∷ 0 ∷ 0 ∷ [])) → a ≡ u32_bytes e.tag → b ≡ u32_bytes (count_of e.values) → f ≡ field_of tiled (payload e.values) → n ≡ type_number (type_of e.values) → IsEntry e → Holds slot tiled e
holds_parts slot a b f n tiled e slot-is a-is b-is f-is n-is fits =
    let la : length a ≡ 4 = ap length a-is in
    let lb : length b ≡ 4 = ap length b-is in
    let lf : length f ≡ 4 = ap length f-is ∙ length-field_of tiled (payload e.values) in
    let parts = four_parts a b f (n ∷ 0 ∷ 0 ∷ 0 ∷ []) la lb lf in
    let twelve : drop 12 slot ≡ n ∷ 0 ∷ 0 ∷ 0 ∷ [] = ap (drop 12) slot-is ∙ parts.3 in
    let thirteen : drop 13 slot ≡ 0 ∷ 0 ∷ 0 ∷ [] = sym (drop-drop 1 12 slot) ∙ ap (drop 1) twelve in
    record {
      len = omega (arith, ap length slot-is, length-append a (b ++ (f ++ n ∷ 0 ∷ 0 ∷ 0 ∷ [])), length-append b (f ++ n ∷ 0 ∷ 0 ∷ 0 ∷ []), length-append f (n ∷ 0 ∷ 0 ∷ 0 ∷ []));
      tag = ap (λ (s : List ℕ). tag_in s) slot-is ∙ ap (from_le_bytes w32) (parts.0 ∙ a-is) ∙ from_le_bytes-to_le_bytes_4 e.tag fits.tag;
      count = ap (λ (s : List ℕ). count_in s) slot-is ∙ ap (from_le_bytes w32) (parts.1 ∙ b-is) ∙ from_le_bytes-to_le_bytes_4 (count_of e.values) (omega (arith, fits.few));
      field = ap (λ (s : List ℕ). field_in s) slot-is ∙ parts.2 ∙ f-is;
      kind = ap type_numbered (sym (get_or-drop 12 slot 0 0) ∙ ap (λ (xs : List ℕ). get_or xs 0 0) twelve ∙ n-is) ∙ numbered_again (type_of e.values);
      blank = ap (λ (xs : List ℕ). all_zero (take 3 xs)) thirteen;
    }

pub entry_holds : (tiled : ℕ) (e : Entry) → IsEntry e → Holds (entry_bytes tiled e) tiled e
unfolding entry_bytes
entry_holds tiled e fits = holds_parts (entry_bytes tiled e) (u32_bytes e.tag) (u32_bytes (count_of e.values)) (field_of tiled (payload e.values)) (type_number (type_of e.values)) tiled e refl refl refl refl refl fits

held_again : (slot area rest : List ℕ) (tiled : ℕ) (last : Option ℕ) (e : Entry) → Holds slot tiled e → IsEntry e → ValuesFit e.values → order_refusal e.tag last ≡ None → tiled < 2 ^ 32
    → drop tiled area ≡ data_of (payload e.values) ++ rest → tiled + length (data_of (payload e.values)) ≤ length area → entry_of slot area tiled last ≡ Ok (e, tiled + length (data_of (payload e.values)))
unfolding entry_of
held_again slot area rest tiled last e holds is fit order small tiles within =
    let found : payload_at slot (count_of e.values * element_len (type_of e.values)) area tiled ≡ Some (payload e.values, tiled + length (data_of (payload e.values))) =
    ap (λ (n : ℕ). payload_at slot n area tiled) (length-payload e.values) ∙ payload_again slot area (payload e.values) rest tiled holds.field small tiles within in
    let many : (eqb (count_of e.values) 0 || ltb 1024 (count_of e.values)) ≡ false = grind (arith, nat_tests, is.some, is.few) in
    rw (holds.kind, holds.blank, holds.count, many, found, holds.tag, order, holds.count, values_again e.values fit) refl

pub entry_again : (area rest : List ℕ) (tiled : ℕ) (last : Option ℕ) (e : Entry) → IsEntry e → ValuesFit e.values → order_refusal e.tag last ≡ None → tiled < 2 ^ 32
    → drop tiled area ≡ data_of (payload e.values) ++ rest → tiled + length (data_of (payload e.values)) ≤ length area → entry_of (entry_bytes tiled e) area tiled last ≡ Ok (e, tiled + length (data_of (payload e.values)))
entry_again area rest tiled last e is fit order small tiles within = held_again (entry_bytes tiled e) area rest tiled last e (entry_holds tiled e is) is fit order small tiles within
