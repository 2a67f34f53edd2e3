-- At most one request has a buffer at the device.
use Rattle.std.proofs.Common.{◌≡◌, ◌≤◌, ℕ, ◌==◌, ◌+◌, Bool, true, false, ◌&&◌, ◌||◌, not, List, [], ◌∷◌, Some, refl, sym, ap, ◌∙◌, arith, inl, inr, count_by, filter, map}
use Rattle.std.specs.List.{list_any}
use Rattle.std.proofs.lemmas.Bool.{and_parts, cases_Bool, eqb-true, false≢true, or_parts}
use Rattle.basic_lemmas.proofs.Counts.{count-one, count-over, none-counted}
use Rattle.basic_lemmas.proofs.Lists.{any-mapped, any-where}
use Rattle.hal_model.specs.declared.event.HalEvent.{HalEvent}
use Rattle.hal_model.specs.declared.event.HalEvent.TheVariants.{RequestBegin}
use Rattle.hal_model.specs.declared.event.HalTarget.{HalTarget}
use Rattle.hal_model.specs.declared.rule.Rule.TheVariants.{HeldBuffer}
use Rattle.hal_model.specs.Callbacks.{ends_again, names_idle}
use Rattle.hal_model.specs.Device.{is_excused_at}
use Rattle.hal_model.specs.Framework.{is_held_target, is_twice_buffer}
use Rattle.hal_model.specs.Rules.{known}
use Rattle.hal_model.specs.Words.{frames, is_dead, is_flushing, is_held, is_initialized, is_live, is_out, targets_of}
use Rattle.hal_rows.specs.Judged.{is_holding}
use Rattle.hal_rows.specs.declared.row.Row.{Row}
use Rattle.hal_rows.specs.declared.row.TargetRow.{TargetRow}
use Rattle.hal_rows.specs.Row.{begun_count, fresh_row, fresh_target, is_row_live, note_row, note_rows, note_target, row_of, rows, rows_but, target_row}
use Rattle.hal_rows.proofs.Begun.{rows_begun}
use Rattle.hal_rows.proofs.Rows.{rows_noted}
use Rattle.hal_laws.specs.Promised.{KeepsRules, OneHolder, holds}
use Rattle.hal_laws.proofs.Empty.{kept-at, kept-before, known-next}

-- the row has buffer b at the device
abbrev row_holds : ℕ → Row → Bool
row_holds b r = list_any (is_holding b) r.targets

-- ---- requests as rows

count-rows : (row : ℕ → Row) (live p : ℕ → Bool) (q : Row → Bool) (ms : List ℕ) → ((m : ℕ) → p m ≡ q (row m)) → count_by (λ m. live m && p m) ms ≡ count_by q (map row (filter live ms))
count-rows row live p q [] same = refl
count-rows row live p q (m ∷ ms) same =
    let ih = count-rows row live p q ms same in
    elim (cases_Bool (live m)) [
      | inl here ↦ elim (cases_Bool (p m)) [
        | inl yes' ↦ (
            let yes'' : q (row m) ≡ true = sym (same m) ∙ yes' in
            let one : (live m && p m) ≡ true = rw (here, yes') refl in
            count-one (λ i. live i && p i) m ms one ∙ (ap (λ i. 1 + i) ih ∙ (sym (count-one q (row m) (map row (filter live ms)) yes'') ∙ rw here refl))
            )
        | inr no' ↦ (
            let no'' : q (row m) ≡ false = sym (same m) ∙ no' in
            let none : (live m && p m) ≡ false = rw (here, no') refl in
            count-over (λ i. live i && p i) m ms none ∙ (ih ∙ (sym (count-over q (row m) (map row (filter live ms)) no'') ∙ rw here refl))
            )
      ]
      | inr gone ↦ (let none : (live m && p m) ≡ false = rw gone refl in count-over (λ i. live i && p i) m ms none ∙ (ih ∙ rw gone refl))
    ]

held-rows : (k b : ℕ) (past : List HalEvent) → count_by (holds k b past) (frames past) ≡ count_by (row_holds b) (rows k past)
held-rows k b past =
    count-rows (row_of k past) (λ n. is_live k n past) (λ n. list_any (λ t. (t.buffer == b) && is_out n past t) (targets_of n past)) (row_holds b) (frames past)
    (λ n. sym (any-mapped (is_holding b) (target_row n past) (targets_of n past)))

-- ---- an event lets go of buffers, unless it begins a request

less-counted : {X : Type 0} (p : X → Bool) (keep : X → Bool) (f : X → X) (xs : List X) → ((x : X) → p (f x) ≡ true → p x ≡ true) → count_by p (filter keep (map f xs)) ≤ count_by p xs
less-counted p keep f [] less = omega arith
less-counted p keep f (x ∷ xs) less =
    let ih = less-counted p keep f xs less in
    elim (cases_Bool (keep (f x))) [
      | inl kept ↦ elim (cases_Bool (p (f x))) [
        | inl yes' ↦ (let one = count-one p (f x) (filter keep (map f xs)) yes' in let was = count-one p x xs (less x yes') in rw kept (omega (arith, ih, one, was)))
        | inr no' ↦ (let over = count-over p (f x) (filter keep (map f xs)) no' in let more = grows p x xs in rw kept (omega (arith, ih, over, more)))
      ]
      | inr gone ↦ (let more = grows p x xs in rw gone (omega (arith, ih, more)))
    ]
  where
    grows : {X : Type 0} (p : X → Bool) (x : X) (xs : List X) → count_by p xs ≤ count_by p (x ∷ xs)
    grows p x xs = elim (cases_Bool (p x)) [
      | inl yes' ↦ (let one = count-one p x xs yes' in omega (arith, one))
      | inr no' ↦ (let over = count-over p x xs no' in omega (arith, over))
    ]

note-holds : (k b : ℕ) (flushing : Bool) (e : HalEvent) (r : Row) → row_holds b (note_row k flushing e r) ≡ true → row_holds b r ≡ true
note-holds k b flushing e r h = any-where (λ t. is_holding b (note_target r.frame flushing e t)) (is_holding b) r.targets each (sym (any-mapped (is_holding b) (note_target r.frame flushing e) r.targets) ∙ h)
  where
    by : (a x y : Bool) → (a && not (x || y)) ≡ true → (a && not y) ≡ true
    by true true y h = absurd (false≢true h)
    by true false y h = h
    by false x y h = h

    each : (t : TargetRow) → is_holding b (note_target r.frame flushing e t) ≡ true → is_holding b t ≡ true
    each t h = by (t.target.buffer == b) _ t.back h

noted-less : (k b : ℕ) (flushing : Bool) (e : HalEvent) (each : List Row) → count_by (row_holds b) (note_rows k flushing e each) ≤ count_by (row_holds b) each
noted-less k b flushing e each = less-counted (row_holds b) is_row_live (note_row k flushing e) each (note-holds k b flushing e)

but-less : (b n : ℕ) (each : List Row) → count_by (row_holds b) (rows_but n each) ≤ count_by (row_holds b) each
but-less b n each = omega (arith, filter-less' (row_holds b) (λ r. not (r.frame == n)) each)
  where
    filter-less' : {X : Type 0} (p keep : X → Bool) (xs : List X) → count_by p (filter keep xs) ≤ count_by p xs
    filter-less' p keep [] = omega arith
    filter-less' p keep (x ∷ xs) =
        let ih = filter-less' p keep xs in
        elim (cases_Bool (p x)) [
          | inl yes' ↦ (
              let was = count-one p x xs yes' in
              elim (cases_Bool (keep x)) [
                | inl kept ↦ (let one = count-one p x (filter keep xs) yes' in rw kept (omega (arith, ih, one, was)))
                | inr gone ↦ rw gone (omega (arith, ih, was))
              ]
              )
          | inr no' ↦ (
              let was = count-over p x xs no' in
              elim (cases_Bool (keep x)) [
                | inl kept ↦ (let over = count-over p x (filter keep xs) no' in rw kept (omega (arith, ih, over, was)))
                | inr gone ↦ rw gone (omega (arith, ih, was))
              ]
              )
        ]

-- ---- a request that begins has no buffer that another has

fresh-holds : (b : ℕ) (ts : List HalTarget) → list_any (is_holding b) (map fresh_target ts) ≡ true → list_any (λ t. t.buffer == b) ts ≡ true
fresh-holds b ts h = any-where (λ t. is_holding b (fresh_target t)) (λ t. t.buffer == b) ts each (sym (any-mapped (is_holding b) fresh_target ts) ∙ h)
  where
    each : (t : HalTarget) → ((t.buffer == b) && true) ≡ true → (t.buffer == b) ≡ true
    each t h = (and_parts (t.buffer == b) true h).0

unheld : (k b : ℕ) (all ts : List HalTarget) (past : List HalEvent) → list_any (is_held_target k all past) ts ≡ false → list_any (λ t. t.buffer == b) ts ≡ true → is_held k b past ≡ false
unheld k b all [] past none some = absurd (false≢true some)
unheld k b all (t ∷ ts) past none some =
    let parts = or_parts (is_held_target k all past t) (list_any (is_held_target k all past) ts) none in
    elim (cases_Bool (t.buffer == b)) [
      | inl here ↦ ap (λ i. is_held k i past) (sym (eqb-true t.buffer b here)) ∙ (or_parts (is_held k t.buffer past) (is_twice_buffer all t) parts.0).0
      | inr other ↦ (let some' = rw other at some in unheld k b all ts past parts.1 some')
    ]

-- ---- one more event

held-next : (k b : ℕ) (e : HalEvent) (log : List HalEvent) → KeepsRules k (e ∷ log) → names_idle k e (known k log) ≡ false → ends_again e (known k log) ≡ false → count_by (row_holds b) (rows k (known k log)) ≤ 1 → count_by (row_holds b) (rows k (e ∷ known k log)) ≤ 1
held-next k b (RequestBegin n same ts c d) log keeps named once before =
    let past = known k log in
    let kept = kept-at k (RequestBegin n same ts c d) log 10 HeldBuffer keeps refl in
    let fewer = but-less b n (rows k past) in
    let fresh = fresh_row k n (begun_count past) ts same (is_initialized past) (is_dead past) (is_excused_at k (Some (RequestBegin n same ts c d)) past) in
    rw (rows_begun k n same ts c d past) (elim (cases_Bool (list_any (is_holding b) (map fresh_target ts))) [
      | inl own ↦ (
          let free = unheld k b ts ts past kept (fresh-holds b ts own) in
          let none = none-counted (holds k b past) (frames past) free in
          let same' = held-rows k b past in
          let one = count-one (row_holds b) fresh (rows_but n (rows k past)) own in
          omega (arith, one, none, same', fewer)
          )
      | inr no' ↦ (let over = count-over (row_holds b) fresh (rows_but n (rows k past)) no' in omega (arith, over, fewer, before))
    ])
held-next k b e log keeps named once before =
    let past = known k log in
    let fewer = noted-less k b (is_flushing past) e (rows k past) in
    rw (rows_noted k e past refl (both (names_idle k e past) (ends_again e past) named once)) (omega (arith, fewer, before))
  where
    both : (a c : Bool) → a ≡ false → c ≡ false → (a || c) ≡ false
    both a c h i = rw (h, i) refl

held-once : (k b : ℕ) (log : List HalEvent) → KeepsRules k log → count_by (row_holds b) (rows k (known k log)) ≤ 1
held-once k b [] keeps = omega arith
held-once k b (e ∷ log) keeps =
    let before = held-once k b log (kept-before k e log keeps) in
    known-next (λ past. count_by (row_holds b) (rows k past) ≤ 1) k e log (omega arith) before (λ other named once. held-next k b e log keeps named once before)

pub one_holder : (k : ℕ) (log : List HalEvent) → OneHolder k log
one_holder k log keeps b = let same = held-rows k b (known k log) in let one = held-once k b log keeps in omega (arith, same, one)
