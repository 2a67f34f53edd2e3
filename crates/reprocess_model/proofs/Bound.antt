-- How many lines a run has: each kind stands at most once for a request, or for a request and an output.
use Rattle.std.proofs.Common.{◌≡◌, ℕ, zero, suc, ◌==◌, ◌+◌, ◌<◌, ◌≤◌, Bool, true, false, List, [], ◌∷◌, Some, inl, inr, refl, sym, ◌∙◌, arith, length, count_by, cond, drop, if◌then◌else◌}
use Rattle.std.specs.List.{list_any}
use Rattle.std.proofs.lemmas.Bool.{and_right, cases_Bool, cases_eq, cases_lt, eqb-true, eq-eqb, ne_eqb, false≢true}
use Rattle.basic_lemmas.proofs.Counts.{count-cons, count-one, count-over, drop-at}
use Rattle.basic_lemmas.proofs.Tests.{and-true, or-false}
use Rattle.reprocess_model.specs.declared.entry.ReEntry.{ReEntry}
use Rattle.reprocess_model.specs.declared.entry.ReEntry.TheVariants.{Called, BeginFlush, Flushed, Take, Dropped, Error, Failed, Fill, Input}
use Rattle.reprocess_model.specs.declared.plan.Plan.{Plan}
use Rattle.reprocess_model.specs.declared.plan.ReCommand.TheVariants.{Flush}
use Rattle.reprocess_model.specs.Laws.{line_bound}
use Rattle.reprocess_model.specs.Lines.{is_called, is_begin_flush, is_flushed, leaves, is_error_of, is_return_of, is_input_of}
use Rattle.reprocess_model.specs.Past.{call_count, request_count, is_taken, is_returned, is_stopping, output_of, output_holder}
use Rattle.reprocess_model.specs.Plan.{is_flush, is_plan, requests}
use Rattle.reprocess_model.specs.Run.{IsRun}
use Rattle.reprocess_model.proofs.Facts.{taking-of, dropping-of, failing-of, filling-of, inputting-of, erring-of}
use Rattle.reprocess_model.proofs.Held.{input-held, output-apart, output-held, output-range, output_of-taken, input_of-taken, queued-fresh, taken-gone}
use Rattle.reprocess_model.proofs.Back.{gone-called}
use Rattle.reprocess_model.proofs.Calls.{begun-count, flushes-left, length-requests, requests-within, stopping-flush}
use Rattle.reprocess_model.proofs.Stuck.{output-low}

-- how many numbers below n pass the test
abbrev counted : ℕ → (ℕ → Bool) → ℕ
counted zero p = 0
counted (suc n) p = (if p n then 1 else 0) + counted n p

counted-most : (n : ℕ) (p : ℕ → Bool) → counted n p ≤ n
counted-most zero p = omega arith
counted-most (suc n) p =
    let ih = counted-most n p in
    elim (cases_Bool (p n)) [ inl yes' ↦ rw yes' (omega (arith, ih)) | inr no' ↦ rw no' (omega (arith, ih)) ]

counted-none : (n : ℕ) → counted n (λ k. false) ≡ 0
counted-none zero = refl
counted-none (suc n) = rw (counted-none n) refl

counted-same : (n : ℕ) (p q : ℕ → Bool) → ((k : ℕ) → k < n → q k ≡ p k) → counted n q ≡ counted n p
counted-same zero p q same = refl
counted-same (suc n) p q same = rw (same n (omega arith), counted-same n p q (λ k l. same k (omega arith))) refl

counted-more : (n m : ℕ) (p q : ℕ → Bool) → m < n → p m ≡ false → q m ≡ true → ((k : ℕ) → (k ≡ m → ⊥) → q k ≡ p k) → counted n q ≡ 1 + counted n p
counted-more zero m p q l no' yes' same = absurd (omega arith)
counted-more (suc n) m p q l no' yes' same =
    elim (cases_eq m n) [
      | inl here ↦ (
          let at = rw here at no' in
          let now = rw here at yes' in
          let rest = counted-same n p q (λ k less. same k (λ e. absurd (omega (arith, e, here, less)))) in
          rw (at, now, rest) (omega arith)
          )
      | inr other ↦ (
          let ih = counted-more n m p q (omega arith) no' yes' same in
          let last = same n (λ e. other (sym e)) in
          rw (last, ih) (omega arith)
          )
    ]

module _ (R : ℕ) (kind : ReEntry → Bool) (marks : ℕ → ReEntry → Bool) where
  -- each line of the kind marks a number below R, and no two mark one
  abbrev pub IsCounted : List ReEntry → Type 0
  IsCounted past = count_by kind past ≡ counted R (λ n. list_any (marks n) past)

  over : (e : ReEntry) (past : List ReEntry) → kind e ≡ false → ((k : ℕ) → marks k e ≡ false) → IsCounted past → IsCounted (e ∷ past)
  over e past none clean ih =
      count-over kind e past none
      ∙ (ih ∙ sym (counted-same R (λ n. list_any (marks n) past) (λ n. list_any (marks n) (e ∷ past)) (λ k l. rw (clean k) refl)))

  one-more : (e : ReEntry) (past : List ReEntry) (m : ℕ) → kind e ≡ true → m < R → ((k : ℕ) → marks k e ≡ (m == k)) → list_any (marks m) past ≡ false → IsCounted past → IsCounted (e ∷ past)
  one-more e past m yes' below mark fresh ih =
      let now : list_any (marks m) (e ∷ past) ≡ true = rw (mark m, eq-eqb m m refl) refl in
      let more = counted-more R m (λ n. list_any (marks n) past) (λ n. list_any (marks n) (e ∷ past)) below fresh now (λ k other. rw (mark k, ne_eqb m k (λ same. other (sym same))) refl) in
      let one = count-one kind e past yes' in
      omega (arith, one, ih, more)

-- ---- the kinds

abbrev is_leaving : ReEntry → Bool
is_leaving (Take _ _ _) = true
is_leaving (Dropped _) = true
is_leaving _ = false

abbrev is_error : ReEntry → Bool
is_error (Error _) = true
is_error _ = false

abbrev is_back : ReEntry → Bool
is_back (Input _ _) = true
is_back _ = false

abbrev is_return_to : ℕ → ReEntry → Bool
is_return_to s (Failed _ t _) = t.0 == s
is_return_to s (Fill _ t _ _) = t.0 == s
is_return_to s _ = false

below-all : (plan : Plan) (n : ℕ) (past : List ReEntry) → IsRun plan past → is_taken n past ≡ true → n < length (requests plan.commands)
below-all plan n past run taken =
    let called = gone-called plan n past run (taken-gone n past taken) in
    let within = requests-within plan past run in
    omega (arith, called, within)

leaving-counted : (plan : Plan) (past : List ReEntry) → IsRun plan past → IsCounted (length (requests plan.commands)) is_leaving leaves past
leaving-counted plan [] run = sym (counted-none (length (requests plan.commands)))
leaving-counted plan (Take m j outs ∷ past) run =
    let fresh = queued-fresh past m.0 (taking-of plan past m j outs run.0).queued in
    let within = requests-within plan past run.1 in
    one-more (length (requests plan.commands)) is_leaving leaves (Take m j outs) past m.0 refl (omega (arith, fresh.0, within)) (λ k. or-false (m.0 == k)) fresh.1 (leaving-counted plan past run.1)
leaving-counted plan (Dropped m ∷ past) run =
    let fresh = queued-fresh past m.0 (dropping-of past m run.0).0 in
    let within = requests-within plan past run.1 in
    one-more (length (requests plan.commands)) is_leaving leaves (Dropped m) past m.0 refl (omega (arith, fresh.0, within)) (λ k. refl) fresh.1 (leaving-counted plan past run.1)
leaving-counted plan (e ∷ past) run = over (length (requests plan.commands)) is_leaving leaves e past refl (λ k. refl) (leaving-counted plan past run.1)

error-counted : (plan : Plan) (past : List ReEntry) → IsRun plan past → IsCounted (length (requests plan.commands)) is_error is_error_of past
error-counted plan [] run = sym (counted-none (length (requests plan.commands)))
error-counted plan (Error m ∷ past) run =
    let erring = erring-of plan past m run.0 in
    one-more (length (requests plan.commands)) is_error is_error_of (Error m) past m.0 refl (below-all plan m.0 past run.1 erring.taken) (λ k. refl) erring.first (error-counted plan past run.1)
error-counted plan (e ∷ past) run = over (length (requests plan.commands)) is_error is_error_of e past refl (λ k. refl) (error-counted plan past run.1)

input-counted : (plan : Plan) (past : List ReEntry) → IsRun plan past → IsCounted (length (requests plan.commands)) is_back is_input_of past
input-counted plan [] run = sym (counted-none (length (requests plan.commands)))
input-counted plan (Input m j ∷ past) run =
    let given = inputting-of plan past m j run.0 in
    let taken = input_of-taken m.0 past j.0 given.0 in
    let out = (input-held plan j.0 m.0 past run.1 given.1).1 in
    one-more (length (requests plan.commands)) is_back is_input_of (Input m j) past m.0 refl (below-all plan m.0 past run.1 taken) (λ k. refl) out (input-counted plan past run.1)
input-counted plan (e ∷ past) run = over (length (requests plan.commands)) is_back is_input_of e past refl (λ k. refl) (input-counted plan past run.1)

-- a buffer that comes back wasn't back
pub return-fresh : (plan : Plan) (m t c : ℕ) (past : List ReEntry) → IsRun plan past → output_of m t past ≡ Some c → output_holder c past ≡ Some m → is_returned m t past ≡ false
return-fresh plan m t c past run out held =
    let at = output-held plan c m past run held in
    let same = output-apart plan m m at.0 t c past run at.1 out in
    rw same at at.2

return-counted : (plan : Plan) (s : ℕ) (past : List ReEntry) → IsRun plan past → IsCounted (length (requests plan.commands)) (is_return_to s) (λ n. is_return_of n s) past
return-counted plan s [] run = sym (counted-none (length (requests plan.commands)))
return-counted plan s (Failed m t c ∷ past) run =
    let ih = return-counted plan s past run.1 in
    let given = failing-of past m t c run.0 in
    let taken = output_of-taken m.0 t.0 past c.0 given.0 in
    let fresh = return-fresh plan m.0 t.0 c.0 past run.1 given.0 given.2 in
    elim (cases_Bool (t.0 == s)) [
      | inl here ↦ one-more (length (requests plan.commands)) (is_return_to s) (λ n. is_return_of n s) (Failed m t c) past m.0 here (below-all plan m.0 past run.1 taken) (λ k. rw here (and-true (m.0 == k))) (rw (eqb-true t.0 s here) at fresh) ih
      | inr other ↦ over (length (requests plan.commands)) (is_return_to s) (λ n. is_return_of n s) (Failed m t c) past other (λ k. and_right (m.0 == k) (t.0 == s) other) ih
    ]
return-counted plan s (Fill m t c d ∷ past) run =
    let ih = return-counted plan s past run.1 in
    let given = filling-of plan past m t c d run.0 in
    let taken = output_of-taken m.0 t.0 past c.0 given.output in
    let fresh = return-fresh plan m.0 t.0 c.0 past run.1 given.output given.held in
    elim (cases_Bool (t.0 == s)) [
      | inl here ↦ one-more (length (requests plan.commands)) (is_return_to s) (λ n. is_return_of n s) (Fill m t c d) past m.0 here (below-all plan m.0 past run.1 taken) (λ k. rw here (and-true (m.0 == k))) (rw (eqb-true t.0 s here) at fresh) ih
      | inr other ↦ over (length (requests plan.commands)) (is_return_to s) (λ n. is_return_of n s) (Fill m t c d) past other (λ k. and_right (m.0 == k) (t.0 == s) other) ih
    ]
return-counted plan s (e ∷ past) run = over (length (requests plan.commands)) (is_return_to s) (λ n. is_return_of n s) e past refl (λ k. refl) (return-counted plan s past run.1)

-- ---- all together

-- a buffer comes back for one of three outputs
one-of-three : (t : ℕ) → t < 3 → (if t == 0 then 1 else 0) + ((if t == 1 then 1 else 0) + (if t == 2 then 1 else 0)) ≡ 1
one-of-three zero l = refl
one-of-three (suc zero) l = refl
one-of-three (suc (suc zero)) l = refl
one-of-three (suc (suc (suc t))) l = absurd (omega arith)

pub return-low : (plan : Plan) (n t c : ℕ) (past : List ReEntry) → is_plan plan ≡ true → IsRun plan past → output_of n t past ≡ Some c → t < 3
return-low plan n t c past valid run out =
    let range = output-range plan n t c past run out in
    elim (cases_lt t 4) [
      | inl low ↦ output-low plan t valid low range.0
      | inr high ↦ absurd (
          let away0 : (t == 0) ≡ false = ne_eqb t 0 (λ e. omega (arith, e, high)) in
          let away1 : (t == 1) ≡ false = ne_eqb t 1 (λ e. omega (arith, e, high)) in
          let away2 : (t == 2) ≡ false = ne_eqb t 2 (λ e. omega (arith, e, high)) in
          let away3 : (t == 3) ≡ false = ne_eqb t 3 (λ e. omega (arith, e, high)) in
          let none = range.0 in
          let none' = rw (away0, away1, away2, away3) at none in
          false≢true none'
          )
    ]

lines-counted : (plan : Plan) (past : List ReEntry) → is_plan plan ≡ true → IsRun plan past → length past ≡ request_count past + (count_by is_begin_flush past + (count_by is_flushed past + (count_by is_leaving past + (count_by is_error past + (count_by is_back past + (count_by (is_return_to 0) past + (count_by (is_return_to 1) past + count_by (is_return_to 2) past)))))))
lines-counted plan [] valid run = refl
lines-counted plan (Failed m t c ∷ past) valid run =
    let ih = lines-counted plan past valid run.1 in
    let given = failing-of past m t c run.0 in
    let one = one-of-three t.0 (return-low plan m.0 t.0 c.0 past valid run.1 given.0) in
    let e : ReEntry = Failed m t c in
    omega (arith, ih, one, count-cons is_called e past, count-cons is_begin_flush e past, count-cons is_flushed e past, count-cons is_leaving e past, count-cons is_error e past, count-cons is_back e past, count-cons (is_return_to 0) e past, count-cons (is_return_to 1) e past, count-cons (is_return_to 2) e past)
lines-counted plan (Fill m t c d ∷ past) valid run =
    let ih = lines-counted plan past valid run.1 in
    let given = filling-of plan past m t c d run.0 in
    let one = one-of-three t.0 (return-low plan m.0 t.0 c.0 past valid run.1 given.output) in
    let e : ReEntry = Fill m t c d in
    omega (arith, ih, one, count-cons is_called e past, count-cons is_begin_flush e past, count-cons is_flushed e past, count-cons is_leaving e past, count-cons is_error e past, count-cons is_back e past, count-cons (is_return_to 0) e past, count-cons (is_return_to 1) e past, count-cons (is_return_to 2) e past)
lines-counted plan (Called i ∷ past) valid run =
    let ih = lines-counted plan past valid run.1 in
    let e : ReEntry = Called i in
    omega (arith, ih, count-cons is_called e past, count-cons is_begin_flush e past, count-cons is_flushed e past, count-cons is_leaving e past, count-cons is_error e past, count-cons is_back e past, count-cons (is_return_to 0) e past, count-cons (is_return_to 1) e past, count-cons (is_return_to 2) e past)
lines-counted plan (BeginFlush ∷ past) valid run =
    let ih = lines-counted plan past valid run.1 in
    let e : ReEntry = BeginFlush in
    omega (arith, ih, count-cons is_called e past, count-cons is_begin_flush e past, count-cons is_flushed e past, count-cons is_leaving e past, count-cons is_error e past, count-cons is_back e past, count-cons (is_return_to 0) e past, count-cons (is_return_to 1) e past, count-cons (is_return_to 2) e past)
lines-counted plan (Flushed i ∷ past) valid run =
    let ih = lines-counted plan past valid run.1 in
    let e : ReEntry = Flushed i in
    omega (arith, ih, count-cons is_called e past, count-cons is_begin_flush e past, count-cons is_flushed e past, count-cons is_leaving e past, count-cons is_error e past, count-cons is_back e past, count-cons (is_return_to 0) e past, count-cons (is_return_to 1) e past, count-cons (is_return_to 2) e past)
lines-counted plan (Take n i outs ∷ past) valid run =
    let ih = lines-counted plan past valid run.1 in
    let e : ReEntry = Take n i outs in
    omega (arith, ih, count-cons is_called e past, count-cons is_begin_flush e past, count-cons is_flushed e past, count-cons is_leaving e past, count-cons is_error e past, count-cons is_back e past, count-cons (is_return_to 0) e past, count-cons (is_return_to 1) e past, count-cons (is_return_to 2) e past)
lines-counted plan (Dropped n ∷ past) valid run =
    let ih = lines-counted plan past valid run.1 in
    let e : ReEntry = Dropped n in
    omega (arith, ih, count-cons is_called e past, count-cons is_begin_flush e past, count-cons is_flushed e past, count-cons is_leaving e past, count-cons is_error e past, count-cons is_back e past, count-cons (is_return_to 0) e past, count-cons (is_return_to 1) e past, count-cons (is_return_to 2) e past)
lines-counted plan (Error n ∷ past) valid run =
    let ih = lines-counted plan past valid run.1 in
    let e : ReEntry = Error n in
    omega (arith, ih, count-cons is_called e past, count-cons is_begin_flush e past, count-cons is_flushed e past, count-cons is_leaving e past, count-cons is_error e past, count-cons is_back e past, count-cons (is_return_to 0) e past, count-cons (is_return_to 1) e past, count-cons (is_return_to 2) e past)
lines-counted plan (Input n j ∷ past) valid run =
    let ih = lines-counted plan past valid run.1 in
    let e : ReEntry = Input n j in
    omega (arith, ih, count-cons is_called e past, count-cons is_begin_flush e past, count-cons is_flushed e past, count-cons is_leaving e past, count-cons is_error e past, count-cons is_back e past, count-cons (is_return_to 0) e past, count-cons (is_return_to 1) e past, count-cons (is_return_to 2) e past)

-- a flush that goes on is one of those that are left
open-flush : (plan : Plan) (past : List ReEntry) → IsRun plan past → (if is_stopping past then 1 else 0) ≤ count_by is_flush (drop (call_count past) plan.commands)
open-flush plan past run =
    elim (cases_Bool (is_stopping past)) [
      | inl on ↦ (
          let next = drop-at (λ y. cond (is_flush y) 1 0) plan.commands (call_count past) Flush (stopping-flush plan past run on) in
          rw on (omega (arith, next))
          )
      | inr off ↦ rw off (omega arith)
    ]

-- no more than eight for each request and two for each flush
pub bounded : (plan : Plan) (past : List ReEntry) → is_plan plan ≡ true → IsRun plan past → length past ≤ line_bound plan
bounded plan past valid run =
    let R = length (requests plan.commands) in
    let all = lines-counted plan past valid run in
    let count = length-requests plan.commands in
    let requests' = requests-within plan past run in
    let flushes = flushes-left plan past run in
    let begun = begun-count plan past run in
    let open' = open-flush plan past run in
    let leaving = leaving-counted plan past run in
    let leaving' = counted-most (length (requests plan.commands)) (λ n. list_any (leaves n) past) in
    let errors = error-counted plan past run in
    let errors' = counted-most (length (requests plan.commands)) (λ n. list_any (is_error_of n) past) in
    let inputs = input-counted plan past run in
    let inputs' = counted-most (length (requests plan.commands)) (λ n. list_any (is_input_of n) past) in
    let first = return-counted plan 0 past run in
    let first' = counted-most (length (requests plan.commands)) (λ n. list_any (is_return_of n 0) past) in
    let second = return-counted plan 1 past run in
    let second' = counted-most (length (requests plan.commands)) (λ n. list_any (is_return_of n 1) past) in
    let third = return-counted plan 2 past run in
    let third' = counted-most (length (requests plan.commands)) (λ n. list_any (is_return_of n 2) past) in
    omega (arith, all, count, requests', flushes, begun, open', leaving, leaving', errors, errors', inputs, inputs', first, first', second, second', third, third')
