-- What is at fault, put together.
use Rattle.std.proofs.Common.{◌≡◌, ◌∙◌, ℕ, Bool, true, false, List, [], ◌∷◌, ◌++◌, None, refl, sym, ap, filter, map, if◌then◌else◌}
use Rattle.std.specs.Map.{values_of}
use Rattle.basic_lemmas.proofs.Lists.{map-map, append-none}
use Rattle.hal_model.specs.declared.event.HalStream.{HalStream}
use Rattle.hal_model.specs.declared.event.StreamMax.{StreamMax}
use Rattle.hal_model.specs.declared.event.HalEvent.{HalEvent}
use Rattle.hal_model.specs.declared.rule.Fault.{Fault}
use Rattle.hal_model.specs.Rules.{at, at_frames, at_stream}
use Rattle.hal_rows.specs.declared.row.Row.{Row}
use Rattle.hal_rows.specs.Judged.{at_rows, at_target_rows, is_row_silent, row_silences}
use Rattle.hal_rows.specs.Row.{is_row_unannounced_at}
use Rattle.hal_judge.specs.Meant.{frame_of, silence_of}

map-append : {X Y : Type 0} (f : X → Y) (xs ys : List X) → map f (xs ++ ys) ≡ map f xs ++ map f ys
map-append f [] ys = refl
map-append {X} {Y} f (x ∷ xs) ys = ap (λ (z : List Y). f x ∷ z) (map-append f xs ys)

pub streams_told : (most : List StreamMax) (streams : List HalStream) → map at_stream (map (λ x. x.stream) most ++ map (λ x. x.stream) streams) ≡ map (λ x. at_stream x.stream) most ++ map (λ x. at_stream x.stream) streams
streams_told most streams =
    map-append at_stream (map (λ x. x.stream) most) (map (λ x. x.stream) streams)
    ∙ rw (map-map at_stream (λ (x : StreamMax). x.stream) most, map-map at_stream (λ (x : HalStream). x.stream) streams) refl

-- ---- requests of which a buffer is silent

filter-append : {X : Type 0} (p : X → Bool) (xs ys : List X) → filter p (xs ++ ys) ≡ filter p xs ++ filter p ys
filter-append p [] ys = refl
filter-append {X} p (x ∷ xs) ys = by (p x) (filter-append p xs ys)
  where
    by : (b : Bool) → filter p (xs ++ ys) ≡ filter p xs ++ filter p ys → (if b then x ∷ filter p (xs ++ ys) else filter p (xs ++ ys)) ≡ (if b then x ∷ filter p xs else filter p xs) ++ filter p ys
    by true h = ap (λ (z : List X). x ∷ z) h
    by false h = h

pub append-turned : {X : Type 0} (xs ys zs : List X) → (xs ++ ys) ++ zs ≡ xs ++ (ys ++ zs)
append-turned [] ys zs = refl
append-turned {X} (x ∷ xs) ys zs = ap (λ (r : List X). x ∷ r) (append-turned xs ys zs)

silences-append : (xs ys : List Row) → row_silences (xs ++ ys) ≡ row_silences xs ++ row_silences ys
silences-append [] ys = refl
silences-append (r ∷ xs) ys =
    ap (λ z. at_target_rows r.frame (filter (is_row_unannounced_at r) r.targets) ++ z) (silences-append xs ys)
    ∙ sym (append-turned (at_target_rows r.frame (filter (is_row_unannounced_at r) r.targets)) (row_silences xs) (row_silences ys))

-- one more row, with what is told of it before what is told of those that are left
pub silences_next : (e : HalEvent) (k : ℕ) (r : Row) (t u : List (ℕ × Row)) (old new all : List Fault) → t ≡ (k, r) ∷ u → new ≡ old ++ silence_of e r → old ++ row_silences (filter (is_row_silent e) (values_of t)) ≡ all → new ++ row_silences (filter (is_row_silent e) (values_of u)) ≡ all
silences_next e k r t u old new all is now' so =
    ap (λ z. z ++ row_silences (filter (is_row_silent e) (values_of u))) now'
    ∙ (append-turned old (silence_of e r) (row_silences (filter (is_row_silent e) (values_of u)))
    ∙ (ap (λ z. old ++ z) (sym split)
    ∙ (ap (λ z. old ++ row_silences (filter (is_row_silent e) (values_of z))) (sym is) ∙ so)))
  where
    split : row_silences (filter (is_row_silent e) (r ∷ values_of u)) ≡ silence_of e r ++ row_silences (filter (is_row_silent e) (values_of u))
    split = ap row_silences (filter-append (is_row_silent e) (r ∷ []) (values_of u)) ∙ silences-append (filter (is_row_silent e) (r ∷ [])) (filter (is_row_silent e) (values_of u))

pub silences_end : (e : HalEvent) (t : List (ℕ × Row)) (old all : List Fault) → t ≡ [] → old ++ row_silences (filter (is_row_silent e) (values_of t)) ≡ all → old ≡ all
silences_end e t old all is so =
    sym (append-none old) ∙ (ap (λ z. old ++ row_silences (filter (is_row_silent e) (values_of z))) (sym is) ∙ so)

-- requests as faults
pub rows_told : (rows : List Row) → at_frames (map frame_of rows) ≡ at_rows rows
rows_told [] = refl
rows_told (r ∷ rows) = ap (λ z. at r.frame None ∷ z) (rows_told rows)

-- ---- requests that pass a test, by their numbers

-- one more row, with its number before those of the rows that are left
pub frames_next : (p : Row → Bool) (k : ℕ) (r : Row) (t u : List (ℕ × Row)) (old new all : List ℕ) → t ≡ (k, r) ∷ u → new ≡ old ++ map frame_of (filter p (r ∷ [])) → old ++ map frame_of (filter p (values_of t)) ≡ all → new ++ map frame_of (filter p (values_of u)) ≡ all
frames_next p k r t u old new all is now' so =
    ap (λ z. z ++ map frame_of (filter p (values_of u))) now'
    ∙ (append-turned old (map frame_of (filter p (r ∷ []))) (map frame_of (filter p (values_of u)))
    ∙ (ap (λ z. old ++ z) (sym split)
    ∙ (ap (λ z. old ++ map frame_of (filter p (values_of z))) (sym is) ∙ so)))
  where
    split : map frame_of (filter p (r ∷ values_of u)) ≡ map frame_of (filter p (r ∷ [])) ++ map frame_of (filter p (values_of u))
    split = ap (map frame_of) (filter-append p (r ∷ []) (values_of u)) ∙ map-append frame_of (filter p (r ∷ [])) (filter p (values_of u))

pub frames_end : (p : Row → Bool) (t : List (ℕ × Row)) (old all : List ℕ) → t ≡ [] → old ++ map frame_of (filter p (values_of t)) ≡ all → old ≡ all
frames_end p t old all is so =
    sym (append-none old) ∙ (ap (λ z. old ++ map frame_of (filter p (values_of z))) (sym is) ∙ so)
