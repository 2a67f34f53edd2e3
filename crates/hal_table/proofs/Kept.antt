-- What is kept beside the rows, where an event is noted, a row goes, or a request begins.
use Rattle.std.proofs.Common.{◌≡◌, ◌∙◌, ℕ, ◌==◌, ◌-◌, ◌≤◌, ◌<◌, ◌^◌, Bool, true, false, ◌&&◌, List, [], ◌∷◌, Option, Some, None, refl, sym, ap, arith, filter, length, map, nat_eq, if◌then◌else◌}
use Rattle.std.specs.List.{IsDistinct, list_all}
use Rattle.std.specs.Map.{keys_of, lookup, remove_entry, set_value, values_of}
use Rattle.std.specs.BTreeSet.{BTreeSet, contains}
use Rattle.std.specs.Ordering.{nat_cmp}
use Rattle.std.proofs.lemmas.Bool.{eq-eqb, false≢true}
use Rattle.basic_lemmas.proofs.Lists.{all-filtered, filtered-all}
use Rattle.lru.specs.LruCache.{LruCache, lru_cache, put_entries}
use Rattle.hal_model.specs.declared.event.HalEvent.{HalEvent}
use Rattle.hal_model.specs.declared.event.HalEvent.TheVariants.{Results}
use Rattle.hal_model.specs.Rules.{frame_in}
use Rattle.hal_model.specs.Words.{begins_request}
use Rattle.hal_row.specs.Given.{buffers_of}
use Rattle.hal_row.proofs.Given.{targets_kept}
use Rattle.hal_rows.specs.declared.row.Row.{Row}
use Rattle.hal_rows.specs.Row.{is_row_in_call, is_row_live, note_row, note_rows, rows_but}
use Rattle.hal_table.specs.declared.held.Held.{Held}
use Rattle.hal_table.specs.declared.index.Index.{Index}
use Rattle.hal_table.specs.Index.{IsAdded, IsCalled, IsCounted, IsCountedWith, IsIndexed, IsKept, IsTaken, are_keyed, at_row, ends_call, gives_buffers, set_found, with_row, without_gone}
use Rattle.hal_table.proofs.Counted.{called_absent, called_noted, called_put, called_removed, counted_absent, counted_put, counted_removed, counted_same, counted_set}
use Rattle.hal_table.proofs.Entries.{found_frame, found_set, keyed_removed, keyed_set, others_are, put_is}
use Rattle.hal_table.proofs.Steps.{at_reads, own_reads}

-- ---- what is held

either_same : {X : Type 0} (b : Bool) (x : X) → (if b then x else x) ≡ x
either_same true x = refl
either_same false x = refl

no_buffers : (n : ℕ) (e : HalEvent) → gives_buffers e ≡ false → buffers_of n e ≡ []
no_buffers n (Results m j pack [] input) none = either_same (m == n) []
no_buffers n (Results m j pack (b ∷ buffers) input) none = absurd (false≢true (sym none))
no_buffers n _ none = refl

-- an event that gives no buffer back
pub plain_counted : (k : ℕ) (fl : Bool) (e : HalEvent) (n : ℕ) (es : List (ℕ × Row)) (h : Held) → gives_buffers e ≡ false → IsCounted es h → IsCounted (with_row (note_row k fl e) n es) h
plain_counted k fl e n es h none counted = by (lookup (nat_eq n) es) refl
  where
    by : (o : Option Row) → lookup (nat_eq n) es ≡ o → IsCounted (set_found (note_row k fl e) n es o) h
    by None idle = counted
    by (Some r) some = counted_same n es r (note_row k fl e r) h some (targets_kept r.frame fl e r.targets (no_buffers r.frame e none)) counted

-- one that does: what was held is counted no more, and what is held is
pub given_counted : (f : Row → Row) (n : ℕ) (es es' : List (ℕ × Row)) (a b c : Held) → es' ≡ with_row f n es → ((r : Row) → lookup (nat_eq n) es ≡ Some r → IsTaken r.targets a b) → (lookup (nat_eq n) es ≡ None → b ≡ a) → ((r : Row) → lookup (nat_eq n) es' ≡ Some r → IsAdded r.targets b c) → (lookup (nat_eq n) es' ≡ None → c ≡ b) → IsCounted es a → IsCounted es' c
given_counted f n es es' a b c is taken untaken added unadded counted = by (lookup (nat_eq n) es) refl
  where
    by : (o : Option Row) → lookup (nat_eq n) es ≡ o → IsCounted es' c
    by None none =
        let same : es' ≡ es = is ∙ ap (set_found f n es) none in
        rw (same, unadded (ap (lookup (nat_eq n)) same ∙ none), untaken none) counted
    by (Some r) some =
        let same : es' ≡ set_value (nat_eq n) es (f r) = is ∙ ap (set_found f n es) some in
        let now : lookup (nat_eq n) es' ≡ Some (f r) = ap (lookup (nat_eq n)) same ∙ (found_set n n es r (f r) some ∙ rw (eq-eqb n n refl) refl) in
        rw same (counted_set n es r (f r) a b c some counted (taken r some) (added (f r) now))

-- what the others hold, where what the request held is counted no more
pub others_counted : (n : ℕ) (es : List (ℕ × Row)) (a b : Held) → ((r : Row) → lookup (nat_eq n) es ≡ Some r → IsTaken r.targets a b) → (lookup (nat_eq n) es ≡ None → b ≡ a) → IsCounted es a → IsCounted (remove_entry (nat_eq n) es) b
others_counted n es a b taken untaken counted = by (lookup (nat_eq n) es) refl
  where
    by : (o : Option Row) → lookup (nat_eq n) es ≡ o → IsCounted (remove_entry (nat_eq n) es) b
    by None none = rw (untaken none) (counted_absent n es a none counted)
    by (Some r) some = counted_removed n es r a b some counted (taken r some)

-- ---- an event in one row

pub marked_kept : (k : ℕ) (fl : Bool) (e : HalEvent) (n : ℕ) (old new : Index) → IsKept old → (ends_call e ≡ true → frame_in e ≡ Some n) → new.rows.entries ≡ with_row (note_row k fl e) n old.rows.entries → new.rows.cap ≡ old.rows.cap → ((q : ℕ) → contains nat_cmp new.called q ≡ (if ends_call e && (n == q) then false else contains nat_cmp old.called q)) → IsCounted new.rows.entries new.held → IsKept new
marked_kept k fl e n old new kept own is room left' counted = record {
  keyed = rw is (keyed-by (lookup (nat_eq n) old.rows.entries) refl);
  room = room ∙ kept.room;
  called = rw is (called-by (lookup (nat_eq n) old.rows.entries) refl);
  counted = counted;
}
  where
    keyed-by : (o : Option Row) → lookup (nat_eq n) old.rows.entries ≡ o → are_keyed (set_found (note_row k fl e) n old.rows.entries o) ≡ true
    keyed-by None none = kept.keyed
    keyed-by (Some r) some = keyed_set n old.rows.entries r (note_row k fl e r) kept.keyed some refl

    called-by : (o : Option Row) → lookup (nat_eq n) old.rows.entries ≡ o → IsCalled (set_found (note_row k fl e) n old.rows.entries o) new.called
    called-by None none = called_absent e n old.rows.entries old.called new.called none kept.called left'
    called-by (Some r) some =
        let frame-is = found_frame n old.rows.entries r kept.keyed some in
        called_noted k fl e n old.rows.entries r old.called new.called (λ ends. own ends ∙ ap Some (sym frame-is)) some kept.called left'

-- ---- a row goes

pub dropped_kept : (n : ℕ) (old new : Index) → IsKept old → IsDistinct nat_eq (keys_of old.rows.entries) → ((r : Row) → lookup (nat_eq n) old.rows.entries ≡ Some r → IsTaken r.targets old.held new.held) → (lookup (nat_eq n) old.rows.entries ≡ None → new.held ≡ old.held) → ((q : ℕ) → contains nat_cmp new.called q ≡ (if n == q then false else contains nat_cmp old.called q)) → new.rows ≡ lru_cache (remove_entry (nat_eq n) old.rows.entries) old.rows.cap → IsKept new
dropped_kept n old new kept apart taken untaken left' is =
    let entries : new.rows.entries ≡ remove_entry (nat_eq n) old.rows.entries = ap (λ (z : LruCache ℕ Row). z.entries) is in
    record {
      keyed = rw entries (keyed_removed n old.rows.entries kept.keyed);
      room = ap (λ (z : LruCache ℕ Row). z.cap) is ∙ kept.room;
      called = rw entries (called_removed n old.rows.entries old.called new.called apart kept.called left');
      counted = rw entries (others_counted n old.rows.entries old.held new.held taken untaken kept.counted);
    }

-- ---- the rows after an event

pub at_values : (f : Row → Row) (n : ℕ) (old : Index) (mid new : List (ℕ × Row)) → IsIndexed old → IsDistinct nat_eq (keys_of old.rows.entries) → mid ≡ with_row f n old.rows.entries → new ≡ without_gone n mid → values_of new ≡ filter is_row_live (map (at_row n f) (values_of old.rows.entries))
at_values f n old mid new indexed apart marked dropped =
    ap values_of (dropped ∙ ap (without_gone n) marked) ∙ at_reads f n old.rows.entries indexed.kept.keyed indexed.live apart

pub own_values : (k : ℕ) (fl : Bool) (e : HalEvent) (n : ℕ) (old : Index) (mid new : List (ℕ × Row)) → IsIndexed old → IsDistinct nat_eq (keys_of old.rows.entries) → begins_request e ≡ false → frame_in e ≡ Some n → mid ≡ with_row (note_row k fl e) n old.rows.entries → new ≡ without_gone n mid → values_of new ≡ note_rows k fl e (values_of old.rows.entries)
own_values k fl e n old mid new indexed apart no' names marked dropped =
    at_values (note_row k fl e) n old mid new indexed apart marked dropped ∙ ap (filter is_row_live) (own_reads k fl e n (values_of old.rows.entries) no' names)

pub live_filtered : (each xs : List Row) → each ≡ filter is_row_live xs → list_all is_row_live each ≡ true
live_filtered each xs is = ap (list_all is_row_live) is ∙ filtered-all is_row_live xs

-- ---- a request begins

fits : (l cap : ℕ) → l < 2 ^ 63 → cap ≡ 2 ^ 64 - 1 → l ≤ cap - 1
fits l cap short is = omega (arith, short, is)

pub put_entries_are : (old : Index) (row : Row) (new : LruCache ℕ Row) → IsIndexed old → length old.rows.entries < 2 ^ 63 → new ≡ lru_cache (put_entries nat_eq old.rows row.frame row) old.rows.cap → new.entries ≡ (row.frame, row) ∷ remove_entry (nat_eq row.frame) old.rows.entries
put_entries_are old row new indexed short is =
    ap (λ (z : LruCache ℕ Row). z.entries) is ∙ put_is old.rows row.frame row (fits (length old.rows.entries) old.rows.cap short indexed.kept.room)

pub begun_values : (old : Index) (row : Row) (new : LruCache ℕ Row) → IsIndexed old → IsDistinct nat_eq (keys_of old.rows.entries) → length old.rows.entries < 2 ^ 63 → new ≡ lru_cache (put_entries nat_eq old.rows row.frame row) old.rows.cap → values_of new.entries ≡ row ∷ rows_but row.frame (values_of old.rows.entries)
begun_values old row new indexed apart short is =
    ap values_of (put_entries_are old row new indexed short is) ∙ ap (λ (z : List Row). row ∷ z) (others_are row.frame old.rows.entries indexed.kept.keyed apart)

pub begun_indexed : (old new : Index) (row : Row) → IsIndexed old → IsDistinct nat_eq (keys_of old.rows.entries) → length old.rows.entries < 2 ^ 63 → is_row_live row ≡ true → is_row_in_call row ≡ true → IsCountedWith row.frame row.targets old.rows.entries new.held → ((q : ℕ) → contains nat_cmp new.called q ≡ (if row.frame == q then true else contains nat_cmp old.called q)) → new.rows ≡ lru_cache (put_entries nat_eq old.rows row.frame row) old.rows.cap → IsIndexed new
begun_indexed old new row indexed apart short live in-call held entered is =
    let entries = put_entries_are old row new.rows indexed short is in
    record {
      kept = record {
        keyed = rw (entries, eq-eqb row.frame row.frame refl) (keyed_removed row.frame old.rows.entries indexed.kept.keyed);
        room = ap (λ (z : LruCache ℕ Row). z.cap) is ∙ indexed.kept.room;
        called = rw entries (called_put row.frame row old.rows.entries old.called new.called apart in-call indexed.kept.called entered);
        counted = rw entries (counted_put row.frame row (remove_entry (nat_eq row.frame) old.rows.entries) held.0 new.held held.1 held.2);
      };
      live = rw (begun_values old row new.rows indexed apart short is, live) (all-filtered is_row_live _ (values_of old.rows.entries) indexed.live);
    }
