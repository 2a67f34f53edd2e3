-- Words of the past, read of the state.
use Rattle.std.proofs.Common.{◌≡◌, ℕ, ◌==◌, ◌+◌, Bool, true, false, ◌&&◌, ◌||◌, not, List, [], ◌∷◌, refl, sym, ap, ◌∙◌, map, inl, inr, arith, nat_le, nat_lt, suc, zero, count_by, if◌then◌else◌}
use Rattle.std.specs.List.{fold, list_all, list_any}
use Rattle.std.proofs.lemmas.Bool.{and_parts, cases_Bool, eqb-true, false≢true, not-true}
use Rattle.std.proofs.lemmas.Bool.Decides.{nat_tests}
use Rattle.basic_lemmas.proofs.Lists.{all-mapped, any-mapped}
use Rattle.basic_lemmas.proofs.Tests.{not-by}
use Rattle.hal_model.specs.declared.event.HalEvent.{HalEvent}
use Rattle.hal_model.specs.Framework.{is_awaited, is_flushed_in, is_in_flight}
use Rattle.hal_model.specs.Points.{is_dark, is_newly_complete, is_silent, is_unlit}
use Rattle.hal_model.specs.Device.{is_left_by_flush}
use Rattle.hal_model.specs.Words.{accepts, begins_flush, frames, has_shutter, held_by, held_count, is_accepted, is_accepted_before, is_all_back, is_begun, is_complete, is_done, is_ended, is_failed, is_held, is_in_call, is_in_time, is_last_empty, is_live, is_metadata_ended, is_out, is_outstanding, is_part, is_refused, is_requesting, is_some_outstanding, is_unannounced, numbers, since, stands, targets_of}
use Rattle.hal_rows.specs.Judged.{held_count_at, is_held_at, is_holding, is_holding_for, is_requesting_at, is_row, is_row_awaited, is_row_called_from, is_row_in_flight, is_row_left_by_flush, is_row_newly_complete, is_row_part_seen, is_row_silent, is_row_unlit, of_called, of_live}
use Rattle.hal_rows.specs.Laws.{IsHeard}
use Rattle.hal_rows.specs.declared.row.Row.{Row}
use Rattle.hal_rows.specs.Row.{is_row_complete, is_row_done, is_row_ended, is_row_in_call, is_row_outstanding, is_row_unannounced, part_row, row_of, rows, target_row}
use Rattle.hal_rows.specs.State.{hal_state}
use Rattle.hal_rows.proofs.Found.{any-rows, row-found, row-none, sum-rows}
use Rattle.hal_rows.proofs.Later.{live-begun}
use Rattle.hal_rows.proofs.Noted.{in_time, unannounced}
use Rattle.hal_rows.proofs.Stays.{done-complete, idle-called, not-both}

-- ---- one request

pub of-live : (k n : ℕ) (past : List HalEvent) (p : Bool) (test : Row → Bool) → (is_live k n past ≡ true → p ≡ test (row_of k past n)) → (is_live k n past && p) ≡ of_live test n (hal_state k past)
of-live k n past p test same = by (is_live k n past) refl
  where
    by : (l : Bool) → is_live k n past ≡ l → (l && p) ≡ of_live test n (hal_state k past)
    by true live = rw (row-found k n past live) (same live)
    by false gone = rw (row-none k n past gone) refl

call-form : (b a r : Bool) → b ≡ true → (b && (not (b && a) && not r)) ≡ (not a && not r)
call-form b a r h = rw h refl

pub of-called : (k n : ℕ) (past : List HalEvent) (p : Bool) (test : Row → Bool) → (is_live k n past ≡ true → p ≡ test (row_of k past n)) → (is_in_call n past && p) ≡ of_called test n (hal_state k past)
of-called k n past p test same = by (is_live k n past) refl
  where
    by : (l : Bool) → is_live k n past ≡ l → (is_in_call n past && p) ≡ of_called test n (hal_state k past)
    by true live = rw (row-found k n past live, ← same live) (ap (λ c. c && p) (call-form (is_begun n past) (stands n (accepts n) past) (is_refused n past) (live-begun k n past live)))
    by false gone = rw (row-none k n past gone) (ap (λ c. c && p) (idle-called k n past gone))

and-one : (a : Bool) → a ≡ (a && true)
and-one true = refl
and-one false = refl

pub live-is : (k n : ℕ) (past : List HalEvent) → is_live k n past ≡ of_live is_row n (hal_state k past)
live-is k n past = and-one (is_live k n past) ∙ of-live k n past true is_row (λ l. refl)

pub called-is : (k n : ℕ) (past : List HalEvent) → is_in_call n past ≡ of_called is_row n (hal_state k past)
called-is k n past = and-one (is_in_call n past) ∙ of-called k n past true is_row (λ l. refl)

-- ---- what its row says

back-all : (k n : ℕ) (past : List HalEvent) → is_all_back n past ≡ list_all (λ t. t.back) (map (target_row n past) (targets_of n past))
back-all k n past = sym (all-mapped (λ t. t.back) (target_row n past) (targets_of n past))

pub ended-reads : (k n : ℕ) (past : List HalEvent) → is_ended k n past ≡ is_row_ended (row_of k past n)
ended-reads k n past = ap (λ c. is_metadata_ended k n past && c) (back-all k n past)

begun-and : (b a : Bool) → b ≡ true → (b && a) ≡ a
begun-and b a h = rw h refl

pub accepted-reads : (n : ℕ) (past : List HalEvent) → is_begun n past ≡ true → is_accepted n past ≡ stands n (accepts n) past
accepted-reads n past begun = begun-and (is_begun n past) (stands n (accepts n) past) begun

pub complete-reads : (k n : ℕ) (past : List HalEvent) → is_begun n past ≡ true → is_complete k n past ≡ is_row_complete (row_of k past n)
complete-reads k n past begun = both (is_accepted n past) (is_ended k n past) _ _ (accepted-reads n past begun) (ended-reads k n past)
  where
    both : (a b x y : Bool) → a ≡ x → b ≡ y → (a && b) ≡ (x && y)
    both a b x y h i = rw (h, i) refl

pub outstanding-reads : (k n : ℕ) (past : List HalEvent) → is_begun n past ≡ true → is_outstanding k n past ≡ is_row_outstanding (row_of k past n)
outstanding-reads k n past begun = both (is_accepted n past) (is_ended k n past) _ _ (accepted-reads n past begun) (ended-reads k n past)
  where
    both : (a b x y : Bool) → a ≡ x → b ≡ y → (a && not b) ≡ (x && not y)
    both a b x y h i = rw (h, i) refl

pub unannounced-reads : (k n : ℕ) (past : List HalEvent) → is_unannounced n past ≡ is_row_unannounced (row_of k past n)
unannounced-reads k n past = ap (λ c. not (is_failed n past) && c) (unannounced k n past)

parts-all : (k n : ℕ) (past : List HalEvent) → list_all (λ j. stands n (is_part n j) past) (numbers k) ≡ list_all (λ p. p.seen) (map (part_row n past) (numbers k))
parts-all k n past = sym (all-mapped (λ p. p.seen) (part_row n past) (numbers k))

pub done-reads : (k n : ℕ) (past : List HalEvent) → is_begun n past ≡ true → is_done k n past ≡ is_row_done (row_of k past n)
done-reads k n past begun =
    by (is_complete k n past) (is_unannounced n past) (is_failed n past) (has_shutter n past) (list_all (λ j. stands n (is_part n j) past) (numbers k)) _ _ _ _ _ (complete-reads k n past begun) (unannounced-reads k n past) (parts-all k n past)
  where
    by : (c u f s a x y z e p : Bool) → c ≡ x → u ≡ y → a ≡ z → ((c && (not u && (f || (s && (a && not e))))) || p) ≡ ((x && (not y && (f || (s && (z && not e))))) || p)
    by c u f s a x y z e p h i j = rw (h, i, j) refl

-- ---- live requests

-- what is accepted and not ended is live
pub open-live : (k n : ℕ) (past : List HalEvent) → IsHeard k past → is_accepted n past ≡ true → is_done k n past ≡ false → is_live k n past ≡ true
open-live k n past heard accepted open' =
    let parts = and_parts (is_begun n past) (stands n (accepts n) past) accepted in
    live-by (is_begun n past) (is_refused n past) (is_done k n past) parts.0 (not-both k n past heard parts.1) open'
  where
    live-by : (a b c : Bool) → a ≡ true → b ≡ false → c ≡ false → (a && (not b && not c)) ≡ true
    live-by true false false h i j = refl
    live-by false b c h i j = absurd (false≢true h)
    live-by true true c h i j = absurd (false≢true (sym i))
    live-by true false true h i j = absurd (false≢true (sym j))

not-done : (k n : ℕ) (past : List HalEvent) → is_ended k n past ≡ false → is_done k n past ≡ false
not-done k n past open' = not-by (is_done k n past) (is_ended k n past) (λ d. (and_parts (is_accepted n past) (is_ended k n past) (done-complete k n past d)).1) open'

pub outstanding-live : (k n : ℕ) (past : List HalEvent) → IsHeard k past → is_live k n past ≡ false → is_outstanding k n past ≡ false
outstanding-live k n past heard gone = not-by (is_outstanding k n past) (is_live k n past) live gone
  where
    live : is_outstanding k n past ≡ true → is_live k n past ≡ true
    live h =
        let parts = and_parts (is_accepted n past) (not (is_ended k n past)) h in
        open-live k n past heard parts.0 (not-done k n past (not-true (is_ended k n past) parts.1))

awaited-open : (a e x b : Bool) → (a && not ((e || x) && b)) ≡ true → (e && b) ≡ false
awaited-open a true x true h = absurd (false≢true (nothing a h))
  where
    nothing : (a : Bool) → (a && false) ≡ true → false ≡ true
    nothing true h = h
    nothing false h = h
awaited-open a true x false h = refl
awaited-open a false x b h = refl

pub awaited-live : (k n : ℕ) (past : List HalEvent) → IsHeard k past → is_live k n past ≡ false → is_awaited k n past ≡ false
awaited-live k n past heard gone = not-by (is_awaited k n past) (is_live k n past) live gone
  where
    live : is_awaited k n past ≡ true → is_live k n past ≡ true
    live h =
        let parts = and_parts (is_accepted n past) (not ((is_metadata_ended k n past || stands n (is_last_empty k n) past) && is_all_back n past)) h in
        open-live k n past heard parts.0 (not-done k n past (awaited-open (is_accepted n past) (is_metadata_ended k n past) (stands n (is_last_empty k n) past) (is_all_back n past) h))

pub awaited-reads : (k n : ℕ) (past : List HalEvent) → is_begun n past ≡ true → is_awaited k n past ≡ is_row_awaited (row_of k past n)
awaited-reads k n past begun = both (is_accepted n past) (is_metadata_ended k n past || stands n (is_last_empty k n) past) (is_all_back n past) _ _ (accepted-reads n past begun) (back-all k n past)
  where
    both : (a e b x y : Bool) → a ≡ x → b ≡ y → (a && not (e && b)) ≡ (x && not (e && y))
    both a e b x y h i = rw (h, i) refl

pub in-flight-gone : (k : ℕ) (past : List HalEvent) → IsHeard k past → (n : ℕ) → is_begun n past ≡ true → is_live k n past ≡ false → is_in_flight k past n ≡ false
in-flight-gone k past heard n begun gone = neither (is_in_call n past) (is_awaited k n past) (is_flushed_in n (since n past)) (idle-called k n past gone) (awaited-live k n past heard gone)
  where
    neither : (a b c : Bool) → a ≡ false → b ≡ false → (a || (b && not c)) ≡ false
    neither a b c h i = rw (h, i) refl

pub in-flight-reads : (k : ℕ) (past : List HalEvent) (n : ℕ) → is_begun n past ≡ true → is_live k n past ≡ true → is_in_flight k past n ≡ is_row_in_flight (row_of k past n)
in-flight-reads k past n begun live =
    both (is_in_call n past) (is_awaited k n past) (is_flushed_in n (since n past)) _ _ (call-form (is_begun n past) (stands n (accepts n) past) (is_refused n past) begun) (awaited-reads k n past begun)
  where
    both : (a b c x y : Bool) → a ≡ x → b ≡ y → (a || (b && not c)) ≡ (x || (y && not c))
    both a b c x y h i = rw (h, i) refl

pub call-reads : (k n : ℕ) (past : List HalEvent) → is_begun n past ≡ true → is_in_call n past ≡ is_row_in_call (row_of k past n)
call-reads k n past begun = call-form (is_begun n past) (stands n (accepts n) past) (is_refused n past) begun

pub requesting-reads : (k : ℕ) (past : List HalEvent) → is_requesting past ≡ is_requesting_at (hal_state k past)
requesting-reads k past = any-rows k past (λ n. is_in_call n past) is_row_in_call (λ n begun gone. idle-called k n past gone) (λ n begun live. call-reads k n past begun)

pub called-from-reads : (k n : ℕ) (past : List HalEvent) → list_any (λ m. is_in_call m past && not (nat_lt m n)) (frames past) ≡ list_any (is_row_called_from n) (rows k past)
called-from-reads k n past = any-rows k past (λ m. is_in_call m past && not (nat_lt m n)) (is_row_called_from n) gone same
  where
    gone : (m : ℕ) → is_begun m past ≡ true → is_live k m past ≡ false → (is_in_call m past && not (nat_lt m n)) ≡ false
    gone m begun idle = first (is_in_call m past) (not (nat_lt m n)) (idle-called k m past idle)
      where
        first : (a b : Bool) → a ≡ false → (a && b) ≡ false
        first a b h = rw h refl

    same : (m : ℕ) → is_begun m past ≡ true → is_live k m past ≡ true → (is_in_call m past && not (nat_lt m n)) ≡ is_row_called_from n (row_of k past m)
    same m begun live = ap (λ c. c && not (nat_lt m n)) (call-reads k m past begun)

pub outstanding-some : (k : ℕ) (past : List HalEvent) → IsHeard k past → is_some_outstanding k past ≡ list_any is_row_outstanding (rows k past)
outstanding-some k past heard = any-rows k past (λ n. is_outstanding k n past) is_row_outstanding (λ n begun gone. outstanding-live k n past heard gone) (λ n begun live. outstanding-reads k n past begun)

pub left-gone : (k : ℕ) (past : List HalEvent) → IsHeard k past → (n : ℕ) → is_begun n past ≡ true → is_live k n past ≡ false → is_left_by_flush k past n ≡ false
left-gone k past heard n begun gone = second (is_accepted_before begins_flush n past) (is_outstanding k n past) (outstanding-live k n past heard gone)
  where
    second : (a b : Bool) → b ≡ false → (a && b) ≡ false
    second true b h = h
    second false b h = refl

pub left-reads : (k : ℕ) (past : List HalEvent) (n : ℕ) → is_begun n past ≡ true → is_live k n past ≡ true → is_left_by_flush k past n ≡ is_row_left_by_flush (row_of k past n)
left-reads k past n begun live = ap (λ c. is_accepted_before begins_flush n past && c) (outstanding-reads k n past begun)

-- ---- points

pub newly-gone : (k : ℕ) (e : HalEvent) (past : List HalEvent) → IsHeard k past → (n : ℕ) → is_begun n past ≡ true → is_live k n past ≡ false → is_newly_complete k e past n ≡ false
newly-gone k e past heard n begun gone = not-by (is_newly_complete k e past n) (is_live k n past) live gone
  where
    live : is_newly_complete k e past n ≡ true → is_live k n past ≡ true
    live h =
        let parts = and_parts (is_complete k n past) (not (is_done k n past) && is_in_time e n past) h in
        let both = and_parts (not (is_done k n past)) (is_in_time e n past) parts.1 in
        open-live k n past heard (and_parts (is_accepted n past) (is_ended k n past) parts.0).0 (not-true (is_done k n past) both.0)

pub newly-reads : (k : ℕ) (e : HalEvent) (past : List HalEvent) (n : ℕ) → is_begun n past ≡ true → is_newly_complete k e past n ≡ is_row_newly_complete e (row_of k past n)
newly-reads k e past n begun =
    by (is_complete k n past) (is_done k n past) (is_in_time e n past) _ _ _ (complete-reads k n past begun) (done-reads k n past begun) (in_time k n e past)
  where
    by : (a b c x y z : Bool) → a ≡ x → b ≡ y → c ≡ z → (a && (not b && c)) ≡ (x && (not y && z))
    by a b c x y z h i j = rw (h, i, j) refl

first-false : (a b : Bool) → a ≡ false → (a && b) ≡ false
first-false a b h = rw h refl

pub silent-gone : (k : ℕ) (e : HalEvent) (past : List HalEvent) → IsHeard k past → (n : ℕ) → is_begun n past ≡ true → is_live k n past ≡ false → is_silent k e past n ≡ false
silent-gone k e past heard n begun gone = first-false (is_newly_complete k e past n) (is_unannounced n past) (newly-gone k e past heard n begun gone)

pub silent-reads : (k : ℕ) (e : HalEvent) (past : List HalEvent) (n : ℕ) → is_begun n past ≡ true → is_live k n past ≡ true → is_silent k e past n ≡ is_row_silent e (row_of k past n)
silent-reads k e past n begun live = both (is_newly_complete k e past n) (is_unannounced n past) _ _ (newly-reads k e past n begun) (unannounced-reads k n past)
  where
    both : (a b x y : Bool) → a ≡ x → b ≡ y → (a && b) ≡ (x && y)
    both a b x y h i = rw (h, i) refl

pub unlit-gone : (k : ℕ) (e : HalEvent) (past : List HalEvent) → IsHeard k past → (n : ℕ) → is_begun n past ≡ true → is_live k n past ≡ false → is_unlit k e past n ≡ false
unlit-gone k e past heard n begun gone = first-false (is_newly_complete k e past n) (is_dark n past) (newly-gone k e past heard n begun gone)

pub unlit-reads : (k : ℕ) (e : HalEvent) (past : List HalEvent) (n : ℕ) → is_begun n past ≡ true → is_live k n past ≡ true → is_unlit k e past n ≡ is_row_unlit e (row_of k past n)
unlit-reads k e past n begun live = ap (λ c. c && is_dark n past) (newly-reads k e past n begun)

-- ---- what is held

pub held-reads : (k b : ℕ) (past : List HalEvent) → is_held k b past ≡ is_held_at b (rows k past)
held-reads k b past =
    any-rows k past (λ n. is_live k n past && list_any (λ t. (t.buffer == b) && is_out n past t) (targets_of n past)) (λ r. list_any (is_holding b) r.targets)
    (λ n begun gone. first-false (is_live k n past) (list_any (λ t. (t.buffer == b) && is_out n past t) (targets_of n past)) gone)
    (λ n begun live. begun-and (is_live k n past) (list_any (λ t. (t.buffer == b) && is_out n past t) (targets_of n past)) live ∙ sym (any-mapped (is_holding b) (target_row n past) (targets_of n past)))

count-mapped : {X Y : Type 0} (p : Y → Bool) (f : X → Y) (xs : List X) → count_by p (map f xs) ≡ count_by (λ x. p (f x)) xs
count-mapped {X = X} {Y = Y} p f xs = fold-mapped 0 xs
  where
    fold-mapped : (a : ℕ) (xs : List X) → fold (λ c y. c + (if p y then 1 else 0)) a (map f xs) ≡ fold (λ c x. c + (if p (f x) then 1 else 0)) a xs
    fold-mapped a [] = refl
    fold-mapped a (x ∷ xs) = fold-mapped (a + (if p (f x) then 1 else 0)) xs

pub held-counts : (k s : ℕ) (past : List HalEvent) → held_count k s past ≡ held_count_at s (rows k past)
held-counts k s past = sum-rows k past (held_by k s past) (λ r. count_by (is_holding_for s) r.targets) same gone
  where
    same : (n : ℕ) → is_live k n past ≡ true → held_by k s past n ≡ count_by (is_holding_for s) (map (target_row n past) (targets_of n past))
    same n live = rw live (sym (count-mapped (is_holding_for s) (target_row n past) (targets_of n past)))

    gone : (n : ℕ) → is_live k n past ≡ false → held_by k s past n ≡ 0
    gone n idle = rw idle refl

-- ---- parts

pub part-reads : (k j n : ℕ) (past : List HalEvent) → ((nat_lt 0 j && nat_le j k) && stands n (is_part n j) past) ≡ is_row_part_seen j (row_of k past n)
part-reads k j n past = seen k ∙ sym (any-mapped (λ p. (p.number == j) && p.seen) (part_row n past) (numbers k))
  where
    none : (a : Bool) → ((a && false) && stands n (is_part n j) past) ≡ false
    none true = refl
    none false = refl

    seen : (k : ℕ) → ((nat_lt 0 j && nat_le j k) && stands n (is_part n j) past) ≡ list_any (λ i. (i == j) && stands n (is_part n i) past) (numbers k)
    seen zero = by (nat_lt 0 j) (nat_le j 0) (zero-not j)
      where
        zero-not : (j : ℕ) → (nat_lt 0 j && nat_le j 0) ≡ false
        zero-not j = grind (arith, nat_tests)

        by : (a b : Bool) → (a && b) ≡ false → ((a && b) && stands n (is_part n j) past) ≡ false
        by a b h = rw h refl
    seen (suc k) =
        elim (cases_Bool (suc k == j)) [
          | inl here ↦ (
              let same = eqb-true (suc k) j here in
              let within : (nat_lt 0 j && nat_le j (suc k)) ≡ true = rw (← same) (grind (arith, nat_tests)) in
              rw (here, within, same) (last (stands n (is_part n j) past) (list_any (λ i. (i == j) && stands n (is_part n i) past) (numbers k)) (others k))
              )
          | inr other ↦ rw (other, ← seen k) (ap (λ c. c && stands n (is_part n j) past) (wider j k other))
        ]
      where
        wider : (j k : ℕ) → (suc k == j) ≡ false → (nat_lt 0 j && nat_le j (suc k)) ≡ (nat_lt 0 j && nat_le j k)
        wider j k h = grind (arith, nat_tests, h)

        last : (a b : Bool) → (b ≡ true → a ≡ true) → a ≡ (a || b)
        last true b h = refl
        last false true h = h refl
        last false false h = refl

        others : (i : ℕ) → list_any (λ i. (i == j) && stands n (is_part n i) past) (numbers i) ≡ true → stands n (is_part n j) past ≡ true
        others zero h = absurd (false≢true h)
        others (suc i) h =
            elim (cases_Bool (suc i == j)) [
              | inl here ↦ (
                  elim (cases_Bool (stands n (is_part n (suc i)) past)) [
                    | inl stood ↦ rw (← eqb-true (suc i) j here) stood
                    | inr none' ↦ (let h' = rw (here, none') at h in others i h')
                  ]
                  )
              | inr far ↦ (let h' = rw far at h in others i h')
            ]
