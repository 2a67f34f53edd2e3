-- A request that begins has a fresh row, and the others keep theirs.
use Rattle.std.proofs.Common.{◌≡◌, ℕ, ◌==◌, Bool, true, false, ◌&&◌, not, List, [], ◌∷◌, Some, refl, sym, ap, ◌∙◌, filter, map, inl, inr, if◌then◌else◌}
use Rattle.std.proofs.lemmas.Bool.{cases_Bool, eq-eqb, false≢true}
use Rattle.basic_lemmas.proofs.Lists.{map-same}
use Rattle.basic_lemmas.proofs.Tests.{eq-turned}
use Rattle.hal_model.specs.declared.event.HalEvent.{HalEvent}
use Rattle.hal_model.specs.declared.event.HalEvent.TheVariants.{RequestBegin}
use Rattle.hal_model.specs.declared.event.HalTarget.{HalTarget}
use Rattle.hal_model.specs.Device.{is_excused_at}
use Rattle.hal_model.specs.Words.{frames, is_begun, is_dead, is_initialized, is_live, numbers, targets_of}
use Rattle.hal_rows.specs.Row.{begun_count, fresh_part, fresh_row, fresh_target, is_row_live, part_row, row_of, rows, rows_but, target_row}
use Rattle.hal_rows.proofs.Noted.{live_reads}

-- the row of another request
pub row-kept : (k n m : ℕ) (same : Bool) (ts : List HalTarget) (a b : Bool) (past : List HalEvent) → (n == m) ≡ false → row_of k (RequestBegin n same ts a b ∷ past) m ≡ row_of k past m
row-kept k n m same ts a b past other =
    by (rw other (map-same (target_row m (RequestBegin n same ts a b ∷ past)) (target_row m past) (targets_of m past) (λ t. rw other refl)))
    (map-same (part_row m (RequestBegin n same ts a b ∷ past)) (part_row m past) (numbers k) (λ j. rw other refl))
  where
    by : map (target_row m (RequestBegin n same ts a b ∷ past)) (targets_of m (RequestBegin n same ts a b ∷ past)) ≡ map (target_row m past) (targets_of m past) → map (part_row m (RequestBegin n same ts a b ∷ past)) (numbers k) ≡ map (part_row m past) (numbers k) → row_of k (RequestBegin n same ts a b ∷ past) m ≡ row_of k past m
    by targets parts = rw (targets, parts, other) refl

pub live-kept : (k n m : ℕ) (same : Bool) (ts : List HalTarget) (a b : Bool) (past : List HalEvent) → (n == m) ≡ false → is_live k m (RequestBegin n same ts a b ∷ past) ≡ is_live k m past
live-kept k n m same ts a b past other =
    elim (cases_Bool (is_begun m past)) [
      | inl begun ↦ (
          let still : is_begun m (RequestBegin n same ts a b ∷ past) ≡ true = rw other begun in
          live_reads k m (RequestBegin n same ts a b ∷ past) still ∙ (ap is_row_live (row-kept k n m same ts a b past other) ∙ sym (live_reads k m past begun))
          )
      | inr fresh ↦ (
          let still : is_begun m (RequestBegin n same ts a b ∷ past) ≡ false = rw other fresh in
          absent _ _ still ∙ sym (absent _ _ fresh)
          )
    ]
  where
    absent : (b c : Bool) → b ≡ false → (b && c) ≡ false
    absent false c h = refl
    absent true c h = absurd (false≢true (sym h))

-- the row of the request that begins
row-fresh : (k n : ℕ) (same : Bool) (ts : List HalTarget) (a b : Bool) (past : List HalEvent) → row_of k (RequestBegin n same ts a b ∷ past) n ≡ fresh_row k n (begun_count past) ts same (is_initialized past) (is_dead past) (is_excused_at k (Some (RequestBegin n same ts a b)) past)
row-fresh k n same ts a b past =
    let here : (n == n) ≡ true = eq-eqb n n refl in
    by here (map-same (target_row n (RequestBegin n same ts a b ∷ past)) fresh_target ts (λ t. rw here refl))
    (map-same (part_row n (RequestBegin n same ts a b ∷ past)) fresh_part (numbers k) (λ j. rw here refl))
  where
    by : (n == n) ≡ true → map (target_row n (RequestBegin n same ts a b ∷ past)) ts ≡ map fresh_target ts → map (part_row n (RequestBegin n same ts a b ∷ past)) (numbers k) ≡ map fresh_part (numbers k) → row_of k (RequestBegin n same ts a b ∷ past) n ≡ fresh_row k n (begun_count past) ts same (is_initialized past) (is_dead past) (is_excused_at k (Some (RequestBegin n same ts a b)) past)
    by here targets parts = rw (here, targets, parts) refl

live-fresh : (k n : ℕ) (same : Bool) (ts : List HalTarget) (a b : Bool) (past : List HalEvent) → is_live k n (RequestBegin n same ts a b ∷ past) ≡ true
live-fresh k n same ts a b past = rw (eq-eqb n n refl) refl

-- the rows of the others
kept : (k n : ℕ) (same : Bool) (ts : List HalTarget) (a b : Bool) (past : List HalEvent) (ms : List ℕ) → map (row_of k (RequestBegin n same ts a b ∷ past)) (filter (λ m. is_live k m (RequestBegin n same ts a b ∷ past)) (filter (λ m. not (m == n)) ms)) ≡ rows_but n (map (row_of k past) (filter (λ m. is_live k m past) ms))
kept k n same ts a b past [] = refl
kept k n same ts a b past (m ∷ ms) =
    let ih = kept k n same ts a b past ms in
    elim (cases_Bool (m == n)) [
      | inl here ↦ gone (is_live k m past) here ih
      | inr other ↦ (
          let turned = eq-turned n m other in
          stays (is_live k m past) other (live-kept k n m same ts a b past turned) (row-kept k n m same ts a b past turned) ih
          )
    ]
  where
    gone : (l : Bool) → (m == n) ≡ true → map (row_of k (RequestBegin n same ts a b ∷ past)) (filter (λ m. is_live k m (RequestBegin n same ts a b ∷ past)) (filter (λ m. not (m == n)) ms)) ≡ rows_but n (map (row_of k past) (filter (λ m. is_live k m past) ms)) → map (row_of k (RequestBegin n same ts a b ∷ past)) (filter (λ m. is_live k m (RequestBegin n same ts a b ∷ past)) (filter (λ m. not (m == n)) (m ∷ ms))) ≡ rows_but n (map (row_of k past) (if l then m ∷ filter (λ m. is_live k m past) ms else filter (λ m. is_live k m past) ms))
    gone true here ih = rw here ih
    gone false here ih = rw here ih

    stays : (l : Bool) → (m == n) ≡ false → is_live k m (RequestBegin n same ts a b ∷ past) ≡ l → row_of k (RequestBegin n same ts a b ∷ past) m ≡ row_of k past m → map (row_of k (RequestBegin n same ts a b ∷ past)) (filter (λ m. is_live k m (RequestBegin n same ts a b ∷ past)) (filter (λ m. not (m == n)) ms)) ≡ rows_but n (map (row_of k past) (filter (λ m. is_live k m past) ms)) → map (row_of k (RequestBegin n same ts a b ∷ past)) (filter (λ m. is_live k m (RequestBegin n same ts a b ∷ past)) (filter (λ m. not (m == n)) (m ∷ ms))) ≡ rows_but n (map (row_of k past) (if l then m ∷ filter (λ m. is_live k m past) ms else filter (λ m. is_live k m past) ms))
    stays true other live row ih = head other live row ih
      where
        head : (m == n) ≡ false → is_live k m (RequestBegin n same ts a b ∷ past) ≡ true → row_of k (RequestBegin n same ts a b ∷ past) m ≡ row_of k past m → map (row_of k (RequestBegin n same ts a b ∷ past)) (filter (λ m. is_live k m (RequestBegin n same ts a b ∷ past)) (filter (λ m. not (m == n)) ms)) ≡ rows_but n (map (row_of k past) (filter (λ m. is_live k m past) ms)) → map (row_of k (RequestBegin n same ts a b ∷ past)) (filter (λ m. is_live k m (RequestBegin n same ts a b ∷ past)) (filter (λ m. not (m == n)) (m ∷ ms))) ≡ rows_but n (map (row_of k past) (m ∷ filter (λ m. is_live k m past) ms))
        head other live row ih = rw (other, live, row, ih) refl
    stays false other live row ih = rw (other, live) ih

pub rows_begun : (k n : ℕ) (same : Bool) (ts : List HalTarget) (a b : Bool) (past : List HalEvent) → rows k (RequestBegin n same ts a b ∷ past) ≡ fresh_row k n (begun_count past) ts same (is_initialized past) (is_dead past) (is_excused_at k (Some (RequestBegin n same ts a b)) past) ∷ rows_but n (rows k past)
rows_begun k n same ts a b past =
    head (live-fresh k n same ts a b past) (row-fresh k n same ts a b past) (kept k n same ts a b past (frames past))
  where
    head : is_live k n (RequestBegin n same ts a b ∷ past) ≡ true → row_of k (RequestBegin n same ts a b ∷ past) n ≡ fresh_row k n (begun_count past) ts same (is_initialized past) (is_dead past) (is_excused_at k (Some (RequestBegin n same ts a b)) past) → map (row_of k (RequestBegin n same ts a b ∷ past)) (filter (λ m. is_live k m (RequestBegin n same ts a b ∷ past)) (filter (λ m. not (m == n)) (frames past))) ≡ rows_but n (rows k past) → rows k (RequestBegin n same ts a b ∷ past) ≡ fresh_row k n (begun_count past) ts same (is_initialized past) (is_dead past) (is_excused_at k (Some (RequestBegin n same ts a b)) past) ∷ rows_but n (rows k past)
    head live row others = rw (live, row, others) refl
