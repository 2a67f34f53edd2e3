-- An event that is noted in one row after another.
use Rattle.std.proofs.Common.{◌≡◌, ◌∙◌, ℕ, zero, suc, ◌==◌, ◌+◌, ◌<◌, Bool, true, false, ◌&&◌, ◌||◌, not, List, [], ◌∷◌, ◌++◌, Option, Some, None, refl, sym, ap, inl, inr, arith, filter, get_or, length, map, nat_eq, take, if◌then◌else◌}
use Rattle.std.specs.List.{IsDistinct, list_all, list_any}
use Rattle.std.specs.Map.{keys_of, lookup, remove_entry, set_value, values_of}
use Rattle.std.proofs.Math.Seq.{take-length, take-suc}
use Rattle.std.proofs.lemmas.Bool.{and_parts, cases_Bool, eq-eqb, eqb-true, false≢true}
use Rattle.std.proofs.lemmas.List.Folds.{list_any-append}
use Rattle.std.proofs.lemmas.Map.Keys.{IsDistinct-tail, apart_from_distinct}
use Rattle.std.proofs.lemmas.Map.Made.{IsDistinct-keys_filter}
use Rattle.basic_lemmas.proofs.Lists.{all-where}
use Rattle.hal_model.specs.declared.event.HalEvent.{HalEvent}
use Rattle.hal_model.specs.declared.event.HalEvent.TheVariants.{CloseBegin, CloseEnd, ConfigureBegin, FlushBegin, FlushOk}
use Rattle.hal_model.specs.Rules.{frame_in}
use Rattle.hal_model.specs.Words.{begins_request}
use Rattle.hal_rows.specs.declared.row.Row.{Row}
use Rattle.hal_rows.specs.Row.{has_number, is_row_live, note_row, note_rows}
use Rattle.hal_table.specs.Index.{are_keyed, at_row, at_rows, is_touched, may_touch, set_found, with_row, without_gone}
use Rattle.hal_table.proofs.Entries.{found_set, noted_goes, noted_none, noted_stays, removed_set}
use Rattle.hal_table.proofs.Quiet.{other_row, untouched}
use Rattle.basic_lemmas.proofs.Tests.{equal-turned}

-- ---- one row

-- a row is changed, and goes where it isn't live any more
pub at_reads : (f : Row → Row) (n : ℕ) (es : List (ℕ × Row)) → are_keyed es ≡ true → list_all is_row_live (values_of es) ≡ true → IsDistinct nat_eq (keys_of es) → values_of (without_gone n (with_row f n es)) ≡ filter is_row_live (map (at_row n f) (values_of es))
at_reads f n es keyed live apart = by (lookup (nat_eq n) es) refl
  where
    settle : (r : Row) (b : Bool) → lookup (nat_eq n) es ≡ Some r → is_row_live (f r) ≡ b → values_of (if not b then remove_entry (nat_eq n) (set_value (nat_eq n) es (f r)) else set_value (nat_eq n) es (f r)) ≡ filter is_row_live (map (at_row n f) (values_of es))
    settle r true some stays = noted_stays is_row_live f n es r keyed live apart some stays
    settle r false some goes = ap values_of (removed_set n es (f r)) ∙ noted_goes is_row_live f n es r keyed live apart some goes

    now-is : (r : Row) → lookup (nat_eq n) es ≡ Some r → lookup (nat_eq n) (set_value (nat_eq n) es (f r)) ≡ Some (f r)
    now-is r some = found_set n n es r (f r) some ∙ rw (eq-eqb n n refl) refl

    by : (o : Option Row) → lookup (nat_eq n) es ≡ o → values_of (without_gone n (set_found f n es o)) ≡ filter is_row_live (map (at_row n f) (values_of es))
    by None none = rw none (sym (noted_none is_row_live f n es keyed live none))
    by (Some r) some = rw (now-is r some) (settle r (is_row_live (f r)) some refl)

-- an event that names a request is noted in its row alone
pub own_reads : (k : ℕ) (fl : Bool) (e : HalEvent) (n : ℕ) (each : List Row) → begins_request e ≡ false → frame_in e ≡ Some n → map (at_row n (note_row k fl e)) each ≡ map (note_row k fl e) each
own_reads k fl e n [] no' names = refl
own_reads k fl e n (r ∷ each) no' names =
    elim (cases_Bool (r.frame == n)) [
      | inl own ↦ rw (own, own_reads k fl e n each no' names) refl
      | inr other ↦ rw (other, own_reads k fl e n each no' names) (ap (λ (z : Row). z ∷ map (note_row k fl e) each) (sym (other_row k fl e n r no' names other)))
    ]

-- ---- one row after another

number_more : (x n : ℕ) (ns : List ℕ) → has_number x (ns ++ n ∷ []) ≡ (has_number x ns || (n == x))
number_more x n ns = list_any-append (λ y. y == x) ns (n ∷ []) ∙ by (n == x)
  where
    by : (b : Bool) → (has_number x ns || (b || false)) ≡ (has_number x ns || b)
    by true = refl
    by false = refl

or_none : (b : Bool) → (b || false) ≡ b
or_none true = refl
or_none false = refl

-- a number isn't one that isn't listed
unlisted : (x n : ℕ) (ns : List ℕ) → has_number x ns ≡ true → has_number n ns ≡ false → (x == n) ≡ false
unlisted x n ns listed not-listed =
    elim (cases_Bool (x == n)) [
      | inl same ↦ absurd (false≢true (sym not-listed ∙ (ap (λ z. has_number z ns) (sym (eqb-true x n same)) ∙ listed)))
      | inr other ↦ other
    ]

both_kept : (p : Row → Bool) (y z : Row) (ys zs : List Row) → y ≡ z → ys ≡ zs → (if p y then y ∷ ys else ys) ≡ (if p z then z ∷ zs else zs)
both_kept p y z ys zs is rest = rw (is, rest) refl

pub one_more : (f : Row → Row) (ns : List ℕ) (n : ℕ) (each : List Row) → ((r : Row) → (f r).frame ≡ r.frame) → list_all is_row_live each ≡ true → has_number n ns ≡ false → filter is_row_live (map (at_row n f) (filter is_row_live (map (at_rows ns f) each))) ≡ filter is_row_live (map (at_rows (ns ++ n ∷ []) f) each)
one_more f ns n [] frames live new' = refl
one_more f ns n (r ∷ each) frames live new' =
    let parts = and_parts (is_row_live r) (list_all is_row_live each) live in
    let ih = one_more f ns n each frames parts.1 new' in
    elim (cases_Bool (has_number r.frame ns)) [
      | inl listed ↦ (let more : has_number r.frame (ns ++ n ∷ []) ≡ true = number_more r.frame n ns ∙ rw listed refl in
          let other : ((f r).frame == n) ≡ false = rw (frames r) (unlisted r.frame n ns listed new') in
          rw (listed, more) (listed-by (is_row_live (f r)) refl other ih))
      | inr not-listed ↦ (let more : has_number r.frame (ns ++ n ∷ []) ≡ (r.frame == n) = number_more r.frame n ns ∙ rw not-listed (equal-turned n r.frame) in
          rw (not-listed, more, parts.0) (both_kept is_row_live (at_row n f r) (at_row n f r) (filter is_row_live (map (at_row n f) (filter is_row_live (map (at_rows ns f) each)))) (filter is_row_live (map (at_rows (ns ++ n ∷ []) f) each)) refl ih))
    ]
  where
    listed-by : (b : Bool) → is_row_live (f r) ≡ b → ((f r).frame == n) ≡ false → filter is_row_live (map (at_row n f) (filter is_row_live (map (at_rows ns f) each))) ≡ filter is_row_live (map (at_rows (ns ++ n ∷ []) f) each) → filter is_row_live (map (at_row n f) (if is_row_live (f r) then f r ∷ filter is_row_live (map (at_rows ns f) each) else filter is_row_live (map (at_rows ns f) each))) ≡ (if is_row_live (f r) then f r ∷ filter is_row_live (map (at_rows (ns ++ n ∷ []) f) each) else filter is_row_live (map (at_rows (ns ++ n ∷ []) f) each))
    listed-by true stays other ih = rw stays (rw (other, stays, ih) refl)
    listed-by false goes other ih = rw goes ih

-- no row is changed yet
pub none_yet : (f : Row → Row) (each : List Row) → list_all is_row_live each ≡ true → each ≡ filter is_row_live (map (at_rows [] f) each)
none_yet f [] live = refl
none_yet f (r ∷ each) live =
    let parts = and_parts (is_row_live r) (list_all is_row_live each) live in
    rw parts.0 (ap (λ (z : List Row). r ∷ z) (none_yet f each parts.1))

-- all rows that are changed are
listed_or : (k : ℕ) (fl : Bool) (e : HalEvent) (ns : List ℕ) (es : List (ℕ × Row)) → frame_in e ≡ None → are_keyed es ≡ true → list_all (λ x. not (is_touched e x.1) || has_number x.0 ns) es ≡ true → map (at_rows ns (note_row k fl e)) (values_of es) ≡ map (note_row k fl e) (values_of es)
listed_or k fl e ns [] none keyed listed = refl
listed_or k fl e ns (x ∷ es) none keyed listed =
    let parts = and_parts (x.1.frame == x.0) (are_keyed es) keyed in
    let lists = and_parts (not (is_touched e x.1) || has_number x.0 ns) (list_all (λ y. not (is_touched e y.1) || has_number y.0 ns) es) listed in
    let number : has_number x.1.frame ns ≡ has_number x.0 ns = ap (λ z. has_number z ns) (eqb-true x.1.frame x.0 parts.0) in
    let ih = listed_or k fl e ns es none parts.1 lists.1 in
    elim (cases_Bool (has_number x.0 ns)) [
      | inl yes' ↦ rw (number, yes', ih) refl
      | inr no' ↦ (let still : is_touched e x.1 ≡ false = by (is_touched e x.1) (rw no' at lists.0) in
          rw (number, no', ih) (ap (λ (z : Row). z ∷ map (note_row k fl e) (values_of es)) (sym (untouched k fl e x.1 none still))))
    ]
  where
    by : (b : Bool) → (not b || false) ≡ true → b ≡ false
    by true h = absurd (false≢true h)
    by false h = refl

abbrev frames_of : HalEvent → List (ℕ × Row) → List ℕ
frames_of e es = keys_of (filter (λ x. is_touched e x.1) es)

listed_all : (e : HalEvent) (es : List (ℕ × Row)) → list_all (λ x. not (is_touched e x.1) || has_number x.0 (frames_of e es)) es ≡ true
listed_all e [] = refl
listed_all e (x ∷ es) =
    elim (cases_Bool (is_touched e x.1)) [
      | inl yes' ↦ ap (λ ns. list_all (λ y. not (is_touched e y.1) || has_number y.0 ns) (x ∷ es)) (first yes') ∙ rw (yes', eq-eqb x.0 x.0 refl) (all-where (λ y. not (is_touched e y.1) || has_number y.0 (frames_of e es)) (λ y. not (is_touched e y.1) || has_number y.0 (x.0 ∷ frames_of e es)) es (λ y h. more y h) (listed_all e es))
      | inr no' ↦ ap (λ ns. list_all (λ y. not (is_touched e y.1) || has_number y.0 ns) (x ∷ es)) (skipped no') ∙ rw no' (listed_all e es)
    ]
  where
    first : is_touched e x.1 ≡ true → frames_of e (x ∷ es) ≡ x.0 ∷ frames_of e es
    first h = rw h refl

    skipped : is_touched e x.1 ≡ false → frames_of e (x ∷ es) ≡ frames_of e es
    skipped h = rw h refl

    more : (y : ℕ × Row) → (not (is_touched e y.1) || has_number y.0 (frames_of e es)) ≡ true → (not (is_touched e y.1) || has_number y.0 (x.0 ∷ frames_of e es)) ≡ true
    more y h = by (not (is_touched e y.1)) (x.0 == y.0) (has_number y.0 (frames_of e es)) h
      where
        by : (a b c : Bool) → (a || c) ≡ true → (a || (b || c)) ≡ true
        by true b c h = refl
        by false true c h = refl
        by false false c h = h

pub all_read : (k : ℕ) (fl : Bool) (e : HalEvent) (es : List (ℕ × Row)) → frame_in e ≡ None → are_keyed es ≡ true → filter is_row_live (map (at_rows (keys_of (filter (λ x. is_touched e x.1) es)) (note_row k fl e)) (values_of es)) ≡ note_rows k fl e (values_of es)
all_read k fl e es none keyed = ap (filter is_row_live) (listed_or k fl e (frames_of e es) es none keyed (listed_all e es))

-- ---- each number once

pub not_before : (ns : List ℕ) (i : ℕ) → IsDistinct nat_eq ns → i < length ns → has_number (get_or ns i 0) (take i ns) ≡ false
not_before [] i apart l = absurd (omega arith)
not_before (x ∷ ns) zero apart l = refl
not_before (x ∷ ns) (suc i) apart l =
    let first : (x == get_or ns i 0) ≡ false = apart_from_distinct nat_eq (x ∷ ns) 0 (suc i) 0 apart (omega arith) l in
    rw first (not_before ns i (IsDistinct-tail nat_eq x ns apart) (omega arith))

pub touched_once : (e : HalEvent) (es : List (ℕ × Row)) → IsDistinct nat_eq (keys_of es) → IsDistinct nat_eq (keys_of (filter (λ x. is_touched e x.1) es))
touched_once e es apart = IsDistinct-keys_filter nat_eq (λ x. is_touched e x.1) es apart

pub next_read : (f : Row → Row) (ns : List ℕ) (i : ℕ) (n : ℕ) (each now next : List Row) → ((r : Row) → (f r).frame ≡ r.frame) → list_all is_row_live each ≡ true → IsDistinct nat_eq ns → i < length ns → n ≡ get_or ns i 0 → now ≡ filter is_row_live (map (at_rows (take i ns) f) each) → next ≡ filter is_row_live (map (at_row n f) now) → next ≡ filter is_row_live (map (at_rows (take (i + 1) ns) f) each)
next_read f ns i n each now next frames live apart l is before' step =
    let s : i + 1 ≡ suc i = omega arith in
    let fresh : has_number n (take i ns) ≡ false = ap (λ z. has_number z (take i ns)) is ∙ not_before ns i apart l in
    let more : take (i + 1) ns ≡ take i ns ++ n ∷ [] = rw (s, is) (take-suc ns i 0 l) in
    step ∙ rw (before', more) (one_more f (take i ns) n each frames live fresh)

take_past : (ns : List ℕ) (i : ℕ) → (i < length ns → ⊥) → take i ns ≡ ns
take_past [] zero past = refl
take_past [] (suc i) past = refl
take_past (n ∷ ns) zero past = absurd (past (omega arith))
take_past (n ∷ ns) (suc i) past = ap (λ (z : List ℕ). n ∷ z) (take_past ns i (λ l. past (omega (arith, l))))

touches_none : (e : HalEvent) (r : Row) → may_touch e ≡ false → is_touched e r ≡ false
touches_none (ConfigureBegin mode streams) r h = absurd (false≢true (sym h))
touches_none FlushBegin r h = absurd (false≢true (sym h))
touches_none FlushOk r h = absurd (false≢true (sym h))
touches_none CloseBegin r h = absurd (false≢true (sym h))
touches_none CloseEnd r h = absurd (false≢true (sym h))
touches_none _ r h = refl

pub end_read : (k : ℕ) (fl : Bool) (e : HalEvent) (es : List (ℕ × Row)) (ns : List ℕ) (i : ℕ) (now : List Row) → frame_in e ≡ None → are_keyed es ≡ true → ns ≡ keys_of (filter (λ x. is_touched e x.1) es) → (i < length ns → ⊥) → now ≡ filter is_row_live (map (at_rows (take i ns) (note_row k fl e)) (values_of es)) → now ≡ note_rows k fl e (values_of es)
end_read k fl e es ns i now none keyed is past so =
    so ∙ (ap (λ z. filter is_row_live (map (at_rows z (note_row k fl e)) (values_of es))) (take_past ns i past ∙ is) ∙ all_read k fl e es none keyed)

one_kept : (r r' : Row) (each rest : List Row) → r' ≡ r → is_row_live r ≡ true → each ≡ rest → r ∷ each ≡ (if is_row_live r' then r' ∷ rest else rest)
one_kept r r' each rest same live is = rw (same, live, is) refl

-- an event that changes no row
pub still_read : (k : ℕ) (fl : Bool) (e : HalEvent) (each : List Row) → frame_in e ≡ None → may_touch e ≡ false → list_all is_row_live each ≡ true → each ≡ note_rows k fl e each
still_read k fl e [] none still live = refl
still_read k fl e (r ∷ each) none still live =
    let parts = and_parts (is_row_live r) (list_all is_row_live each) live in
    let same : note_row k fl e r ≡ r = untouched k fl e r none (touches_none e r still) in
    one_kept r (note_row k fl e r) each (filter is_row_live (map (note_row k fl e) each)) same parts.0 (still_read k fl e each none still parts.1)
