-- What the rows of the open frames say: which frames are open, the row of a frame, and what holds of each earlier frame.
use Rattle.std.proofs.Common.{◌≡◌, ℕ, ◌==◌, Bool, true, false, ◌&&◌, ◌||◌, not, List, [], ◌∷◌, Option, Some, None, refl, sym, ap, ◌∙◌, inl, inr, append-nil, filter, find, map, nat_lt, reverse, if◌then◌else◌}
use Rattle.std.specs.List.{list_any, list_all}
use Rattle.std.proofs.lemmas.Bool.{and_parts, cases_Bool, eq-eqb, eqb-true, false≢true}
use Rattle.std.proofs.lemmas.List.{reverse-append}
use Rattle.std.proofs.lemmas.List.Elements.{filter-append}
use Rattle.cam_types.specs.declared.script.Script.{Script}
use Rattle.trace_model.specs.declared.entry.Entry.{Entry}
use Rattle.trace_model.specs.declared.entry.Entry.TheVariants.{Send}
use Rattle.trace_model.specs.Frames.{each_earlier, frames, is_sent, targets_of}
use Rattle.trace_model.specs.Legal.{IsLegal}
use Rattle.trace_model.specs.Open.{all_settled, is_metadata_ended, is_open}
use Rattle.trace_laws.proofs.Parts.{part-within}
use Rattle.state_facts.specs.Row.{Row, in_order, is_back, is_ended, is_open_row, open_rows, row_of, target_at}
use Rattle.state_facts.specs.FrameReadings.{CountReads, QuietReads, each_below, is_none_left, on_row, row_at}
use Rattle.state_facts.proofs.Order.{all-order, any-order, count-order, order-sent}
use Rattle.state_facts.proofs.Pairs.{count-length}
use Rattle.basic_lemmas.proofs.Lists.{all-mapped, all-kept, count-kept}

-- ---- which rows are open

pub row-ended : (script : Script) (past : List Entry) (n : ℕ) → IsLegal script past → is_ended (row_of script past n) ≡ is_metadata_ended n past
row-ended script past n legal = rw (part-within script past n 3 legal) refl

pub row-back : (script : Script) (past : List Entry) (n : ℕ) → is_back (row_of script past n) ≡ all_settled n past
row-back script past n = all-mapped (λ t. t.settled) (target_at n past) (targets_of n past)

pub row-open : (script : Script) (past : List Entry) (n : ℕ) → IsLegal script past → is_sent n past ≡ true → is_open_row (row_of script past n) ≡ is_open n past
row-open script past n legal sent = rw (row-ended script past n legal, row-back script past n, sent) refl

-- a frame without a row wasn't sent, or is done
pub record IsDone (past : List Entry) (n : ℕ) : Type 0 where
  pub ended : is_metadata_ended n past ≡ true
  pub back : all_settled n past ≡ true

pub closed-done : (script : Script) (past : List Entry) (n : ℕ) → IsLegal script past → is_sent n past ≡ true → is_open_row (row_of script past n) ≡ false → IsDone past n
closed-done script past n legal sent closed =
    let h : is_open n past ≡ false = sym (row-open script past n legal sent) ∙ closed in
    let both = parts (is_sent n past) (is_metadata_ended n past) (all_settled n past) sent h in
    record { ended = both.0; back = both.1 }
  where
    parts : (a b c : Bool) → a ≡ true → (a && not (b && c)) ≡ false → (b ≡ true) × (c ≡ true)
    parts true true true s h = (refl, refl)
    parts true true false s h = absurd (false≢true (sym h))
    parts true false c s h = absurd (false≢true (sym h))
    parts false b c s h = absurd (false≢true s)

-- ---- counts

pub count_reads : (script : Script) (past : List Entry) → CountReads script past
count_reads script past legal =
    count-length (λ n. is_open n past) (frames past)
    ∙ (sym (count-order (λ n. is_open n past) past)
    ∙ (sym (count-length (λ n. is_open n past) (in_order past))
    ∙ count-kept (λ n. is_sent n past) (λ n. is_open n past) is_open_row (row_of script past) (in_order past) (λ n sent. row-open script past n legal sent) (order-sent past)))

pub quiet_reads : (script : Script) (past : List Entry) → QuietReads script past
quiet_reads script past legal =
    sym (all-order (λ n. not (is_open n past)) past)
    ∙ (all-kept (λ n. is_sent n past) (λ n. not (is_open n past)) is_open_row (λ r. not (is_open_row r)) (row_of script past) (in_order past)
    (λ n sent closed. rw (← row-open script past n legal sent, closed) refl) (λ n sent. rw (row-open script past n legal sent) refl) (order-sent past)
    ∙ none_kept is_open_row (map (row_of script past) (in_order past)))
  where
    none_kept : (k : Row → Bool) (rs : List Row) → list_all (λ r. not (k r)) (filter k rs) ≡ is_none_left (filter k rs)
    none_kept k [] = refl
    none_kept k (r ∷ rs) = elim (cases_Bool (k r)) [ inl kept ↦ rw (kept, kept) refl | inr gone ↦ rw gone (none_kept k rs) ]

-- ---- each earlier frame

pub each-reads : (script : Script) (past : List Entry) (n : ℕ) (p : ℕ → Bool) (q : Row → Bool) → IsLegal script past → ((m : ℕ) → is_sent m past ≡ true → IsDone past m → p m ≡ true) → ((m : ℕ) → is_sent m past ≡ true → q (row_of script past m) ≡ p m) → each_earlier n p past ≡ each_below n q (open_rows script past)
each-reads script past n p q legal done same =
    sym (all-order (λ m. not (nat_lt m n) || p m) past)
    ∙ all-kept (λ m. is_sent m past) (λ m. not (nat_lt m n) || p m) is_open_row (λ r. not (nat_lt r.number n) || q r) (row_of script past) (in_order past)
    (λ m sent closed. or_true (not (nat_lt m n)) (p m) (done m sent (closed-done script past m legal sent closed))) (λ m sent. rw (same m sent) refl) (order-sent past)
  where
    or_true : (a b : Bool) → b ≡ true → (a || b) ≡ true
    or_true true b h = refl
    or_true false b h = h

-- ---- the row of a frame

off : (b : Bool) (r : Row) → (if b && false then Some r else None) ≡ None
off true r = refl
off false r = refl

found_kept : (f : ℕ → Row) (n : ℕ) (xs : List ℕ) → ((x : ℕ) → (f x).number ≡ x) → find (λ r. r.number == n) (filter is_open_row (map f xs)) ≡ (if list_any (λ x. x == n) xs && is_open_row (f n) then Some (f n) else None)
found_kept f n [] number = refl
found_kept f n (x ∷ xs) number =
    let ih = found_kept f n xs number in
    elim (cases_Bool (x == n)) [
      | inl here ↦ (
          let at = eqb-true x n here in
          let own : (n == n) ≡ true = eq-eqb n n refl in
          elim (cases_Bool (is_open_row (f n))) [
            | inl kept ↦ rw (at, kept, number n, own) refl
            | inr gone ↦ rw (at, gone, ih, gone, off (list_any (λ y. y == n) xs) (f n), off ((n == n) || list_any (λ y. y == n) xs) (f n)) refl
          ]
          )
      | inr other ↦ elim (cases_Bool (is_open_row (f x))) [
        | inl kept ↦ rw (kept, number x, other) ih
        | inr gone ↦ rw (gone, other) ih
      ]
    ]

pub frame-among : (n : ℕ) (past : List Entry) → list_any (λ m. m == n) (frames past) ≡ is_sent n past
frame-among n [] = refl
frame-among n (Send m r i same targets ∷ past) = rw (frame-among n past) refl
frame-among n (e ∷ past) = frame-among n past

pub row-found : (script : Script) (past : List Entry) (n : ℕ) → row_at n (open_rows script past) ≡ (if is_sent n past && is_open_row (row_of script past n) then Some (row_of script past n) else None)
row-found script past n = rw (← frame-among n past, ← any-order (λ m. m == n) past) (found_kept (row_of script past) n (in_order past) (λ x. refl))

pub row-where : (script : Script) (past : List Entry) (n : ℕ) → IsLegal script past → row_at n (open_rows script past) ≡ (if is_open n past then Some (row_of script past n) else None)
row-where script past n legal =
    row-found script past n
    ∙ ap (λ (b : Bool). if b then Some (row_of script past n) else None) (both (is_sent n past) (is_open_row (row_of script past n)) (not (is_metadata_ended n past && all_settled n past)) (λ sent. row-open script past n legal sent))
  where
    both : (s o p : Bool) → (s ≡ true → o ≡ (s && p)) → (s && o) ≡ (s && p)
    both true o p h = h refl
    both false o p h = refl

-- what is due of a frame is read from its row, where nothing is due of one that wasn't sent or is done
pub by-row : (script : Script) (past : List Entry) (n : ℕ) (o : Option Entry) (f : Row → Option Entry) → IsLegal script past → (is_sent n past ≡ false → o ≡ None) → (is_sent n past ≡ true → IsDone past n → o ≡ None) → (is_sent n past ≡ true → is_open_row (row_of script past n) ≡ true → o ≡ f (row_of script past n)) → o ≡ on_row f (row_at n (open_rows script past))
by-row script past n o f legal unsent done open' =
    rw (row-found script past n) (elim (cases_Bool (is_sent n past)) [
      | inl sent ↦ elim (cases_Bool (is_open_row (row_of script past n))) [
        | inl here ↦ rw (sent, here) (open' sent here)
        | inr closed ↦ rw (sent, closed) (done sent (closed-done script past n legal sent closed))
      ]
      | inr none ↦ rw none (unsent none)
    ])

-- ---- the numbers of the rows

kept-numbers : (f : ℕ → Row) (k : Row → Bool) (p ok : ℕ → Bool) (xs : List ℕ) → ((x : ℕ) → (f x).number ≡ x) → ((x : ℕ) → ok x ≡ true → k (f x) ≡ p x) → list_all ok xs ≡ true → map (λ r. r.number) (filter k (map f xs)) ≡ filter p xs
kept-numbers f k p ok [] number same all = refl
kept-numbers f k p ok (x ∷ xs) number same all =
    let parts = and_parts (ok x) (list_all ok xs) all in
    let ih = kept-numbers f k p ok xs number same parts.1 in
    rw (same x parts.0) (elim (cases_Bool (p x)) [ inl kept ↦ rw (kept, number x, ih) refl | inr gone ↦ rw gone ih ])

order-turned : (p : ℕ → Bool) (past : List Entry) → filter p (in_order past) ≡ reverse (filter p (frames past))
order-turned p [] = refl
order-turned p (Send n r i same targets ∷ past) =
    rw (filter-append p (in_order past) (n.0 ∷ []), order-turned p past) (elim (cases_Bool (p n.0)) [
      | inl kept ↦ rw kept (sym (reverse-append (n.0 ∷ []) (filter p (frames past))))
      | inr gone ↦ rw gone (append-nil (reverse (filter p (frames past))))
    ])
order-turned p (e ∷ past) = order-turned p past

-- they are those of the open frames, the oldest first
pub row-numbers : (script : Script) (past : List Entry) → IsLegal script past → map (λ r. r.number) (open_rows script past) ≡ reverse (filter (λ n. is_open n past) (frames past))
row-numbers script past legal =
    kept-numbers (row_of script past) is_open_row (λ n. is_open n past) (λ n. is_sent n past) (in_order past) (λ n. refl) (λ n sent. row-open script past n legal sent) (order-sent past)
    ∙ order-turned (λ n. is_open n past) past
