-- Rows under their requests' numbers: looked up, changed, taken out.
use Rattle.std.proofs.Common.{◌≡◌, ◌∙◌, ℕ, zero, suc, ◌==◌, ◌-◌, ◌≤◌, ◌<◌, ◌^◌, Bool, true, false, ◌&&◌, not, List, [], ◌∷◌, Option, Some, None, refl, sym, ap, inl, inr, arith, filter, find, length, map, nat_eq, take, if◌then◌else◌}
use Rattle.std.specs.Cmp.{nat_eq_equiv}
use Rattle.std.specs.List.{IsDistinct, list_all, list_any}
use Rattle.std.specs.Map.{keys_of, lookup, lookup_entry, remove_entry, set_value, values_of}
use Rattle.std.specs.Option.{option_map_or}
use Rattle.std.proofs.lemmas.Bool.{and_parts, cases_Bool, eq-eqb, eqb-true, false≢true}
use Rattle.std.proofs.lemmas.Map.{lookup-none, lookup-remove_entry, lookup-set_value}
use Rattle.std.proofs.lemmas.Map.Entries.{none_past_head}
use Rattle.std.proofs.lemmas.Map.Keys.{IsDistinct-tail}
use Rattle.lru.specs.LruCache.{LruCache, put_entries}
use Rattle.lru.proofs.CallerLemmas.{Contains-lookup_entry}
use Rattle.hal_model.specs.Framework.{is_empty}
use Rattle.hal_rows.specs.declared.row.Row.{Row}
use Rattle.hal_rows.specs.Judged.{of_found}
use Rattle.hal_rows.specs.Row.{row_for, rows_but}
use Rattle.hal_table.specs.Index.{are_keyed, at_row}
use Rattle.basic_lemmas.proofs.Tests.{equal-turned}

pub empty_reads : {X : Type 0} (xs : List X) → is_empty xs ≡ (length xs == 0)
empty_reads [] = refl
empty_reads (x ∷ xs) = grind arith

-- the number of a row that stands under it
pub key_reads : (f j n : ℕ) → (f == j) ≡ true → (f == n) ≡ nat_eq n j
key_reads f j n h = rw (eqb-true f j h) (equal-turned j n)

-- the key test of a number
pub one_key : (n x y : ℕ) → nat_eq n x ≡ true → nat_eq n y ≡ nat_eq x y
one_key n x y h = ap (λ z. nat_eq z y) (eqb-true n x h)

pub row_reads : (n : ℕ) (es : List (ℕ × Row)) → are_keyed es ≡ true → lookup (nat_eq n) es ≡ row_for n (values_of es)
row_reads n [] keyed = refl
row_reads n (e ∷ es) keyed =
    let parts = and_parts (e.1.frame == e.0) (are_keyed es) keyed in
    rw (key_reads e.1.frame e.0 n parts.0, row_reads n es parts.1) refl

-- no other row is under the first one's number
pub none_behind : (n : ℕ) (e : ℕ × Row) (es : List (ℕ × Row)) → IsDistinct nat_eq (keys_of (e ∷ es)) → nat_eq n e.0 ≡ true → lookup (nat_eq n) es ≡ None
none_behind n e es apart hit = lookup-none (nat_eq n) es (none_past_head nat_eq_equiv n e es apart hit)

pub apart_behind : (e : ℕ × Row) (es : List (ℕ × Row)) → IsDistinct nat_eq (keys_of (e ∷ es)) → IsDistinct nat_eq (keys_of es)
apart_behind e es apart = IsDistinct-tail nat_eq e.0 (keys_of es) apart

-- ---- something is noted in one row

-- it isn't there
pub noted_none : (p : Row → Bool) (f : Row → Row) (n : ℕ) (es : List (ℕ × Row)) → are_keyed es ≡ true → list_all p (values_of es) ≡ true → lookup (nat_eq n) es ≡ None → filter p (map (at_row n f) (values_of es)) ≡ values_of es
noted_none p f n [] keyed live none = refl
noted_none p f n (e ∷ es) keyed live none =
    let parts = and_parts (e.1.frame == e.0) (are_keyed es) keyed in
    let lives = and_parts (p e.1) (list_all p (values_of es)) live in
    elim (cases_Bool (nat_eq n e.0)) [
      | inl hit ↦ (let none' = rw hit at none in absurd (cc))
      | inr miss ↦ (let none' = rw miss at none in rw (key_reads e.1.frame e.0 n parts.0, miss, lives.0, noted_none p f n es parts.1 lives.1 none') refl)
    ]

if-behind : (b : Bool) (r : Row) (xs ys : List Row) → (if b then r ∷ xs else r ∷ ys) ≡ r ∷ (if b then xs else ys)
if-behind true r xs ys = refl
if-behind false r xs ys = refl

-- it is there: it stays, or goes
noted_found : (p : Row → Bool) (f : Row → Row) (n : ℕ) (es : List (ℕ × Row)) (r : Row) → are_keyed es ≡ true → list_all p (values_of es) ≡ true → IsDistinct nat_eq (keys_of es) → lookup (nat_eq n) es ≡ Some r → (if p (f r) then values_of (set_value (nat_eq n) es (f r)) else values_of (remove_entry (nat_eq n) es)) ≡ filter p (map (at_row n f) (values_of es))
noted_found p f n [] r keyed live apart some = absurd (cc)
noted_found p f n (e ∷ es) r keyed live apart some =
    let parts = and_parts (e.1.frame == e.0) (are_keyed es) keyed in
    let lives = and_parts (p e.1) (list_all p (values_of es)) live in
    elim (cases_Bool (nat_eq n e.0)) [
      | inl hit ↦ (let some' = rw hit at some in
          let is : e.1 ≡ r = cc in
          rw (key_reads e.1.frame e.0 n parts.0, hit, noted_none p f n es parts.1 lives.1 (none_behind n e es apart hit), is) refl)
      | inr miss ↦ (let some' = rw miss at some in
          rw (key_reads e.1.frame e.0 n parts.0, miss, lives.0) (if-behind (p (f r)) e.1 _ _ ∙ ap (λ (z : List Row). e.1 ∷ z) (noted_found p f n es r parts.1 lives.1 (apart_behind e es apart) some')))
    ]

pub noted_stays : (p : Row → Bool) (f : Row → Row) (n : ℕ) (es : List (ℕ × Row)) (r : Row) → are_keyed es ≡ true → list_all p (values_of es) ≡ true → IsDistinct nat_eq (keys_of es) → lookup (nat_eq n) es ≡ Some r → p (f r) ≡ true → values_of (set_value (nat_eq n) es (f r)) ≡ filter p (map (at_row n f) (values_of es))
noted_stays p f n es r keyed live apart some stays = rw stays at (noted_found p f n es r keyed live apart some)

pub noted_goes : (p : Row → Bool) (f : Row → Row) (n : ℕ) (es : List (ℕ × Row)) (r : Row) → are_keyed es ≡ true → list_all p (values_of es) ≡ true → IsDistinct nat_eq (keys_of es) → lookup (nat_eq n) es ≡ Some r → p (f r) ≡ false → values_of (remove_entry (nat_eq n) es) ≡ filter p (map (at_row n f) (values_of es))
noted_goes p f n es r keyed live apart some goes = rw goes at (noted_found p f n es r keyed live apart some)

pub removed_set : (n : ℕ) (es : List (ℕ × Row)) (w : Row) → remove_entry (nat_eq n) (set_value (nat_eq n) es w) ≡ remove_entry (nat_eq n) es
removed_set n [] w = refl
removed_set n (e ∷ es) w =
    elim (cases_Bool (nat_eq n e.0)) [
      | inl hit ↦ rw (hit, hit) refl
      | inr miss ↦ rw (miss, miss) (ap (λ (z : List (ℕ × Row)). e ∷ z) (removed_set n es w))
    ]

-- ---- numbers

pub keyed_set : (n : ℕ) (es : List (ℕ × Row)) (r w : Row) → are_keyed es ≡ true → lookup (nat_eq n) es ≡ Some r → w.frame ≡ r.frame → are_keyed (set_value (nat_eq n) es w) ≡ true
keyed_set n [] r w keyed some same = refl
keyed_set n (e ∷ es) r w keyed some same =
    let parts = and_parts (e.1.frame == e.0) (are_keyed es) keyed in
    elim (cases_Bool (nat_eq n e.0)) [
      | inl hit ↦ (let some' = rw hit at some in
          let is : e.1 ≡ r = cc in
          let own : (w.frame == e.0) ≡ true = rw (same, ← is) parts.0 in
          rw (hit, own) parts.1)
      | inr miss ↦ (let some' = rw miss at some in rw (miss, parts.0) (keyed_set n es r w parts.1 some' same))
    ]

pub keyed_removed : (n : ℕ) (es : List (ℕ × Row)) → are_keyed es ≡ true → are_keyed (remove_entry (nat_eq n) es) ≡ true
keyed_removed n [] keyed = refl
keyed_removed n (e ∷ es) keyed =
    let parts = and_parts (e.1.frame == e.0) (are_keyed es) keyed in
    elim (cases_Bool (nat_eq n e.0)) [
      | inl hit ↦ rw hit parts.1
      | inr miss ↦ rw (miss, parts.0) (keyed_removed n es parts.1)
    ]

-- ---- looked up

pub found_set : (n q : ℕ) (es : List (ℕ × Row)) (r w : Row) → lookup (nat_eq n) es ≡ Some r → lookup (nat_eq q) (set_value (nat_eq n) es w) ≡ (if nat_eq n q then Some w else lookup (nat_eq q) es)
found_set n q es r w some = lookup-set_value nat_eq_equiv (nat_eq n) (one_key n) q w es (search some)

pub found_removed : (n q : ℕ) (es : List (ℕ × Row)) → IsDistinct nat_eq (keys_of es) → lookup (nat_eq q) (remove_entry (nat_eq n) es) ≡ (if nat_eq n q then None else lookup (nat_eq q) es)
found_removed n q es apart = lookup-remove_entry nat_eq_equiv (nat_eq n) (one_key n) q es apart

-- the number of the row that is found
pub found_frame : (n : ℕ) (es : List (ℕ × Row)) (r : Row) → are_keyed es ≡ true → lookup (nat_eq n) es ≡ Some r → r.frame ≡ n
found_frame n [] r keyed some = absurd (cc)
found_frame n (e ∷ es) r keyed some =
    let parts = and_parts (e.1.frame == e.0) (are_keyed es) keyed in
    elim (cases_Bool (nat_eq n e.0)) [
      | inl hit ↦ (let some' = rw hit at some in
          let is : e.1 ≡ r = cc in
          ap (λ (z : Row). z.frame) (sym is) ∙ (eqb-true e.1.frame e.0 parts.0 ∙ sym (eqb-true n e.0 hit)))
      | inr miss ↦ (let some' = rw miss at some in found_frame n es r parts.1 some')
    ]

-- a row that passes a test is found by its number
pub any_found : (p : Row → Bool) (es : List (ℕ × Row)) → IsDistinct nat_eq (keys_of es) → list_any p (values_of es) ≡ true → (m : ℕ) × (r : Row) × (lookup (nat_eq m) es ≡ Some r) × (p r ≡ true)
any_found p [] apart some = absurd (false≢true some)
any_found p (e ∷ es) apart some =
    elim (cases_Bool (p e.1)) [
      | inl yes' ↦ (e.0, e.1, rw (eq-eqb e.0 e.0 refl) refl, yes')
      | inr no' ↦ (let some' = rw no' at some in
          let it = any_found p es (apart_behind e es apart) some' in
          (it.0, it.1, past it.0 it.1 it.2, it.3))
    ]
  where
    past : (m : ℕ) (r : Row) → lookup (nat_eq m) es ≡ Some r → lookup (nat_eq m) (e ∷ es) ≡ Some r
    past m r found =
        elim (cases_Bool (nat_eq m e.0)) [
          | inl hit ↦ (let none = none_behind m e es apart hit in absurd (cc))
          | inr miss ↦ rw miss found
        ]

pub found_any : (p : Row → Bool) (m : ℕ) (es : List (ℕ × Row)) → of_found p (lookup (nat_eq m) es) ≡ true → list_any p (values_of es) ≡ true
found_any p m [] some = absurd (false≢true some)
found_any p m (e ∷ es) some =
    elim (cases_Bool (nat_eq m e.0)) [
      | inl hit ↦ (let some' = rw hit at some in rw some' refl)
      | inr miss ↦ (let some' = rw miss at some in
          elim (cases_Bool (p e.1)) [
            | inl yes' ↦ rw yes' refl
            | inr no' ↦ rw no' (found_any p m es some')
          ])
    ]

-- ---- a row is put

removed_none : (n : ℕ) (es : List (ℕ × Row)) → lookup_entry (nat_eq n) es ≡ None → remove_entry (nat_eq n) es ≡ es
removed_none n [] none = refl
removed_none n (e ∷ es) none =
    elim (cases_Bool (nat_eq n e.0)) [
      | inl hit ↦ (let none' = rw hit at none in absurd (cc))
      | inr miss ↦ (let none' = rw miss at none in rw miss (ap (λ (z : List (ℕ × Row)). e ∷ z) (removed_none n es none')))
    ]

take_all : {X : Type 0} (m : ℕ) (xs : List X) → length xs ≤ m → take m xs ≡ xs
take_all zero [] short = refl
take_all (suc m) [] short = refl
take_all zero (x ∷ xs) short = absurd (omega arith)
take_all {X} (suc m) (x ∷ xs) short = ap (λ (z : List X). x ∷ z) (take_all m xs (omega arith))

pub put_is : (c : LruCache ℕ Row) (n : ℕ) (row : Row) → length c.entries ≤ c.cap - 1 → put_entries nat_eq c n row ≡ (n, row) ∷ remove_entry (nat_eq n) c.entries
put_is c n row short = by (lookup_entry (nat_eq n) c.entries) refl
  where
    by : (o : Option (ℕ × Row)) → lookup_entry (nat_eq n) c.entries ≡ o → option_map_or (λ e. (e.0, row) ∷ remove_entry (nat_eq n) c.entries) o ((n, row) ∷ take (c.cap - 1) c.entries) ≡ (n, row) ∷ remove_entry (nat_eq n) c.entries
    by None none = rw (take_all (c.cap - 1) c.entries short, removed_none n c.entries none) refl
    by (Some e) some =
        let is : n ≡ e.0 = eqb-true n e.0 (Contains-lookup_entry (nat_eq n) c.entries e some).1 in
        ap (λ (z : ℕ). (z, row) ∷ remove_entry (nat_eq n) c.entries) (sym is)

but_none : (n : ℕ) (es : List (ℕ × Row)) → are_keyed es ≡ true → lookup (nat_eq n) es ≡ None → rows_but n (values_of es) ≡ values_of es
but_none n [] keyed none = refl
but_none n (e ∷ es) keyed none =
    let parts = and_parts (e.1.frame == e.0) (are_keyed es) keyed in
    elim (cases_Bool (nat_eq n e.0)) [
      | inl hit ↦ (let none' = rw hit at none in absurd (cc))
      | inr miss ↦ (let none' = rw miss at none in rw (key_reads e.1.frame e.0 n parts.0, miss, but_none n es parts.1 none') refl)
    ]

-- the rows of other requests
pub others_are : (n : ℕ) (es : List (ℕ × Row)) → are_keyed es ≡ true → IsDistinct nat_eq (keys_of es) → values_of (remove_entry (nat_eq n) es) ≡ rows_but n (values_of es)
others_are n [] keyed apart = refl
others_are n (e ∷ es) keyed apart =
    let parts = and_parts (e.1.frame == e.0) (are_keyed es) keyed in
    elim (cases_Bool (nat_eq n e.0)) [
      | inl hit ↦ rw (key_reads e.1.frame e.0 n parts.0, hit) (sym (but_none n es parts.1 (none_behind n e es apart hit)))
      | inr miss ↦ rw (key_reads e.1.frame e.0 n parts.0, miss, others_are n es parts.1 (apart_behind e es apart)) refl
    ]
