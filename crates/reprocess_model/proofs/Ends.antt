-- Each buffer comes back once for each take, each request ends once, and filled outputs rise by request.
use Rattle.std.proofs.Common.{◌≡◌, ℕ, ◌==◌, ◌+◌, ◌<◌, ◌≤◌, Bool, true, false, ◌&&◌, ◌||◌, not, List, [], ◌∷◌, Option, Some, None, inl, inr, refl, sym, subst, ◌∙◌, arith, count_by, filter, length, if◌then◌else◌, is_some}
use Rattle.std.specs.List.{list_all, list_any}
use Rattle.std.proofs.lemmas.Bool.{and_from, and_parts, both_ways, cases_Bool, cases_order, eqb-true, eq-eqb, lt-ltb, ne_eqb, not-false, not-true, or_cases, or_from, or_left, or_parts, or_right, false≢true}
use Rattle.basic_lemmas.proofs.Counts.{count-one, count-over, counts-once}
use Rattle.basic_lemmas.proofs.Lists.{any-behind, any-or, any-where}
use Rattle.basic_lemmas.proofs.Tests.{not-by, or-false}
use Rattle.cam_types.specs.declared.four.Four.{Four}
use Rattle.reprocess_model.specs.declared.entry.ReEntry.{ReEntry}
use Rattle.reprocess_model.specs.declared.entry.ReEntry.TheVariants.{Called, BeginFlush, Take, Dropped, Failed, Fill, Input}
use Rattle.reprocess_model.specs.declared.entry.ReOut.{ReOut}
use Rattle.reprocess_model.specs.declared.plan.Plan.{Plan}
use Rattle.reprocess_model.specs.Lines.{drops, is_error_of, is_input_of, is_return_of, leaves, takes}
use Rattle.reprocess_model.specs.Past.{all_inputs_home, all_outputs_home, call_count, has_buffer, has_error, has_input, input_holder, is_gone, is_input_home, is_returned, is_taken, least_queued, output_holder, request_count}
use Rattle.reprocess_model.specs.Run.{IsRun, is_complete}
use Rattle.reprocess_model.specs.ReprocessLaws.{ends, fills_rise, is_fill_before, one_held, returns_input, returns_output, takes_input, takes_output}
use Rattle.reprocess_model.proofs.Found.{all_below-at, least-passes, none-passes}
use Rattle.reprocess_model.proofs.Facts.{taking-of, dropping-of, failing-of, filling-of, inputting-of}
use Rattle.reprocess_model.proofs.Held.{has-buffer-home, has_input-taken, input-held, input-holds, input_of-taken, least_input-home, output_of-taken, queued-fresh, taken-gone, taken-input}
use Rattle.reprocess_model.proofs.Bound.{return-fresh}
use Rattle.basic_lemmas.proofs.Options.{not-some}

-- ---- buffers

taken-more : (t t' r r' h h' : ℕ) → t' ≡ 1 + t → r' ≡ r → t ≡ h + r → h ≡ 0 → h' ≡ 1 → t' ≡ h' + r'
taken-more t t' r r' h h' a b c d e = omega arith

back-more : (t t' r r' h h' : ℕ) → t' ≡ t → r' ≡ 1 + r → t ≡ h + r → h ≡ 1 → h' ≡ 0 → t' ≡ h' + r'
back-more t t' r r' h h' a b c d e = omega arith

none-more : (t t' r r' h h' : ℕ) → t' ≡ t → r' ≡ r → t ≡ h + r → h' ≡ h → t' ≡ h' + r'
none-more t t' r r' h h' a b c d = omega arith

held-none : (o : Option ℕ) → o ≡ None → one_held o ≡ 0
held-none o h = rw h refl

held-some : (o : Option ℕ) (n : ℕ) → o ≡ Some n → one_held o ≡ 1
held-some o n h = rw h refl

pub input-balanced : (plan : Plan) (i : ℕ) (past : List ReEntry) → IsRun plan past → count_by (takes_input i) past ≡ one_held (input_holder i past) + count_by (returns_input i) past
input-balanced plan i [] run = refl
input-balanced plan i (Take m j outs ∷ past) run =
    let ih = input-balanced plan i past run.1 in
    let free = (least_input-home past j.0 (taking-of plan past m j outs run.0).input).1 in
    elim (cases_Bool (j.0 == i)) [
      | inl here ↦ taken-more (count_by (takes_input i) past) (count_by (takes_input i) (Take m j outs ∷ past)) (count_by (returns_input i) past) (count_by (returns_input i) (Take m j outs ∷ past)) (one_held (input_holder i past)) (one_held (input_holder i (Take m j outs ∷ past))) (count-one (takes_input i) (Take m j outs) past here) (count-over (returns_input i) (Take m j outs) past refl) ih (held-none (input_holder i past) (rw (eqb-true j.0 i here) at free)) (rw here refl)
      | inr other ↦ none-more (count_by (takes_input i) past) (count_by (takes_input i) (Take m j outs ∷ past)) (count_by (returns_input i) past) (count_by (returns_input i) (Take m j outs ∷ past)) (one_held (input_holder i past)) (one_held (input_holder i (Take m j outs ∷ past))) (count-over (takes_input i) (Take m j outs) past other) (count-over (returns_input i) (Take m j outs) past refl) ih (rw other refl)
    ]
input-balanced plan i (Input m j ∷ past) run =
    let ih = input-balanced plan i past run.1 in
    let held = (inputting-of plan past m j run.0).1 in
    elim (cases_Bool (j.0 == i)) [
      | inl here ↦ back-more (count_by (takes_input i) past) (count_by (takes_input i) (Input m j ∷ past)) (count_by (returns_input i) past) (count_by (returns_input i) (Input m j ∷ past)) (one_held (input_holder i past)) (one_held (input_holder i (Input m j ∷ past))) (count-over (takes_input i) (Input m j) past refl) (count-one (returns_input i) (Input m j) past here) ih (held-some (input_holder i past) m.0 (rw (eqb-true j.0 i here) at held)) (rw here refl)
      | inr other ↦ none-more (count_by (takes_input i) past) (count_by (takes_input i) (Input m j ∷ past)) (count_by (returns_input i) past) (count_by (returns_input i) (Input m j ∷ past)) (one_held (input_holder i past)) (one_held (input_holder i (Input m j ∷ past))) (count-over (takes_input i) (Input m j) past refl) (count-over (returns_input i) (Input m j) past other) ih (rw other refl)
    ]
input-balanced plan i (Called k ∷ past) run = rw (count-over (takes_input i) (Called k) past refl, count-over (returns_input i) (Called k) past refl) (input-balanced plan i past run.1)
input-balanced plan i (BeginFlush ∷ past) run = rw (count-over (takes_input i) (BeginFlush) past refl, count-over (returns_input i) (BeginFlush) past refl) (input-balanced plan i past run.1)
input-balanced plan i (e ∷ past) run = rw (count-over (takes_input i) e past refl, count-over (returns_input i) e past refl) (input-balanced plan i past run.1)

pub output-balanced : (plan : Plan) (b : ℕ) (past : List ReEntry) → IsRun plan past → count_by (takes_output b) past ≡ one_held (output_holder b past) + count_by (returns_output b) past
output-balanced plan b [] run = refl
output-balanced plan b (Take m j outs ∷ past) run =
    let ih = output-balanced plan b past run.1 in
    let taking = taking-of plan past m j outs run.0 in
    elim (cases_Bool (has_buffer b outs)) [
      | inl here ↦ taken-more (count_by (takes_output b) past) (count_by (takes_output b) (Take m j outs ∷ past)) (count_by (returns_output b) past) (count_by (returns_output b) (Take m j outs ∷ past)) (one_held (output_holder b past)) (one_held (output_holder b (Take m j outs ∷ past))) (count-one (takes_output b) (Take m j outs) past here) (count-over (returns_output b) (Take m j outs) past refl) ih (held-none (output_holder b past) (has-buffer-home plan past b (subst (λ (x : Four ReOut). has_buffer b x ≡ true) (sym taking.buffers) here))) (rw here refl)
      | inr other ↦ none-more (count_by (takes_output b) past) (count_by (takes_output b) (Take m j outs ∷ past)) (count_by (returns_output b) past) (count_by (returns_output b) (Take m j outs ∷ past)) (one_held (output_holder b past)) (one_held (output_holder b (Take m j outs ∷ past))) (count-over (takes_output b) (Take m j outs) past other) (count-over (returns_output b) (Take m j outs) past refl) ih (rw other refl)
    ]
output-balanced plan b (Failed m t c ∷ past) run =
    let ih = output-balanced plan b past run.1 in
    let held = (failing-of past m t c run.0).2 in
    elim (cases_Bool (c.0 == b)) [
      | inl here ↦ back-more (count_by (takes_output b) past) (count_by (takes_output b) (Failed m t c ∷ past)) (count_by (returns_output b) past) (count_by (returns_output b) (Failed m t c ∷ past)) (one_held (output_holder b past)) (one_held (output_holder b (Failed m t c ∷ past))) (count-over (takes_output b) (Failed m t c) past refl) (count-one (returns_output b) (Failed m t c) past here) ih (held-some (output_holder b past) m.0 (rw (eqb-true c.0 b here) at held)) (rw here refl)
      | inr other ↦ none-more (count_by (takes_output b) past) (count_by (takes_output b) (Failed m t c ∷ past)) (count_by (returns_output b) past) (count_by (returns_output b) (Failed m t c ∷ past)) (one_held (output_holder b past)) (one_held (output_holder b (Failed m t c ∷ past))) (count-over (takes_output b) (Failed m t c) past refl) (count-over (returns_output b) (Failed m t c) past other) ih (rw other refl)
    ]
output-balanced plan b (Fill m t c d ∷ past) run =
    let ih = output-balanced plan b past run.1 in
    let held = (filling-of plan past m t c d run.0).held in
    elim (cases_Bool (c.0 == b)) [
      | inl here ↦ back-more (count_by (takes_output b) past) (count_by (takes_output b) (Fill m t c d ∷ past)) (count_by (returns_output b) past) (count_by (returns_output b) (Fill m t c d ∷ past)) (one_held (output_holder b past)) (one_held (output_holder b (Fill m t c d ∷ past))) (count-over (takes_output b) (Fill m t c d) past refl) (count-one (returns_output b) (Fill m t c d) past here) ih (held-some (output_holder b past) m.0 (rw (eqb-true c.0 b here) at held)) (rw here refl)
      | inr other ↦ none-more (count_by (takes_output b) past) (count_by (takes_output b) (Fill m t c d ∷ past)) (count_by (returns_output b) past) (count_by (returns_output b) (Fill m t c d ∷ past)) (one_held (output_holder b past)) (one_held (output_holder b (Fill m t c d ∷ past))) (count-over (takes_output b) (Fill m t c d) past refl) (count-over (returns_output b) (Fill m t c d) past other) ih (rw other refl)
    ]
output-balanced plan b (Called k ∷ past) run = rw (count-over (takes_output b) (Called k) past refl, count-over (returns_output b) (Called k) past refl) (output-balanced plan b past run.1)
output-balanced plan b (BeginFlush ∷ past) run = rw (count-over (takes_output b) (BeginFlush) past refl, count-over (returns_output b) (BeginFlush) past refl) (output-balanced plan b past run.1)
output-balanced plan b (e ∷ past) run = rw (count-over (takes_output b) e past refl, count-over (returns_output b) e past refl) (output-balanced plan b past run.1)

-- ---- requests

dropped-gone : (n : ℕ) (past : List ReEntry) → list_any (drops n) past ≡ true → is_gone n past ≡ true
dropped-gone n past h = any-where (drops n) (leaves n) past (λ e t. or_right (takes n e) (drops n e) t) h

-- a request that is taken isn't dropped
taken-kept : (plan : Plan) (n : ℕ) (past : List ReEntry) → IsRun plan past → is_taken n past ≡ true → list_any (drops n) past ≡ false
taken-kept plan n [] run h = refl
taken-kept plan n (Take m j outs ∷ past) run h =
    let fresh = (queued-fresh past m.0 (taking-of plan past m j outs run.0).queued).1 in
    elim (cases_Bool (m.0 == n)) [
      | inl here ↦ not-by (list_any (drops n) past) (is_gone n past) (dropped-gone n past) (rw (eqb-true m.0 n here) at fresh)
      | inr other ↦ (let h' = rw other at h in taken-kept plan n past run.1 h')
    ]
taken-kept plan n (Dropped m ∷ past) run h =
    let fresh = (queued-fresh past m.0 (dropping-of past m run.0).0).1 in
    let away : (m.0 == n) ≡ false = ne_eqb m.0 n (λ same. let fresh' = rw same at fresh in both_ways (is_gone n past) fresh' (taken-gone n past h)) in
    rw away (taken-kept plan n past run.1 h)
taken-kept plan n (_ ∷ past) run h = taken-kept plan n past run.1 h

ends-split : (n : ℕ) (past : List ReEntry) → list_any (ends n) past ≡ (has_input n past || list_any (drops n) past)
ends-split n past = any-or (is_input_of n) (drops n) past

ends-fresh : (n : ℕ) (past : List ReEntry) → has_input n past ≡ false → list_any (drops n) past ≡ false → list_any (ends n) past ≡ false
ends-fresh n past a b = ends-split n past ∙ or_from (has_input n past) (list_any (drops n) past) a b

ended-once : (plan : Plan) (n : ℕ) (past : List ReEntry) → IsRun plan past → count_by (ends n) past ≡ (if list_any (ends n) past then 1 else 0)
ended-once plan n [] run = refl
ended-once plan n (Input m j ∷ past) run =
    let given = inputting-of plan past m j run.0 in
    let out = (input-held plan j.0 m.0 past run.1 given.1).1 in
    let kept = taken-kept plan m.0 past run.1 (input_of-taken m.0 past j.0 given.0) in
    counts-once (ends n) (Input m j) past
    (λ h. let same = eqb-true m.0 n (rw or-false at h) in rw same at (ends-fresh m.0 past out kept))
    (ended-once plan n past run.1)
ended-once plan n (Dropped m ∷ past) run =
    let fresh = (queued-fresh past m.0 (dropping-of past m run.0).0).1 in
    let kept = not-by (list_any (drops m.0) past) (is_gone m.0 past) (dropped-gone m.0 past) fresh in
    let out = not-by (has_input m.0 past) (is_gone m.0 past) (λ h. taken-gone m.0 past (has_input-taken plan m.0 past run.1 h)) fresh in
    counts-once (ends n) (Dropped m) past
    (λ h. let same = eqb-true m.0 n h in rw same at (ends-fresh m.0 past out kept))
    (ended-once plan n past run.1)
ended-once plan n (e ∷ past) run = counts-once (ends n) e past (λ h. absurd (false≢true h)) (ended-once plan n past run.1)

-- each request of a complete run ends once
pub ends-once : (plan : Plan) (n : ℕ) (past : List ReEntry) → IsRun plan past → is_complete plan past ≡ true → n < request_count past → count_by (ends n) past ≡ 1
ends-once plan n past run complete called =
    let p = and_parts (call_count past == length plan.commands) (not (is_some (least_queued past)) && (all_inputs_home past && all_outputs_home past)) complete in
    let q = and_parts (not (is_some (least_queued past))) (all_inputs_home past && all_outputs_home past) p.1 in
    let home = (and_parts (all_inputs_home past) (all_outputs_home past) q.1).0 in
    let none = not-some (least_queued past) (not-true (is_some (least_queued past)) q.0) in
    let gone = not-false (is_gone n past) (none-passes (request_count past) (λ k. not (is_gone k past)) n none called) in
    let split = any-or (takes n) (drops n) past in
    let either = or_cases (is_taken n past) (list_any (drops n) past) (sym split ∙ gone) in
    let ended : list_any (ends n) past ≡ true = elim either [
      | inl taken ↦ elim (cases_Bool (has_input n past)) [
        | inl back ↦ ends-split n past ∙ or_left (has_input n past) (list_any (drops n) past) back
        | inr out ↦ absurd (
            let input = taken-input plan n past run taken in
            let holds = input-holds plan input.0 n past run input.1 out in
            let free = all_below-at 3 (is_input_home past) input.0 home input.2 in
            let free' = rw holds at free in
            false≢true free'
            )
      ]
      | inr dropped ↦ ends-split n past ∙ or_right (has_input n past) (list_any (drops n) past) dropped
    ] in
    ended-once plan n past run ∙ rw ended refl

-- ---- the order of fills

-- requests are gone in their order
gone-before : (plan : Plan) (m n : ℕ) (past : List ReEntry) → IsRun plan past → is_gone m past ≡ true → n < m → is_gone n past ≡ true
gone-before plan m n [] run h l = absurd (false≢true h)
gone-before plan m n (Take k j outs ∷ past) run h l =
    elim (or_cases (leaves m (Take k j outs)) (is_gone m past) h) [
      | inl here ↦ (
          let same = eqb-true k.0 m (rw or-false at here) in
          let queued = (taking-of plan past k j outs run.0).queued in
          let before = not-false (is_gone n past) (least-passes (request_count past) (λ i. not (is_gone i past)) k.0 n queued (rw same l)) in
          any-behind (leaves n) (Take k j outs) past before
          )
      | inr before ↦ any-behind (leaves n) (Take k j outs) past (gone-before plan m n past run.1 before l)
    ]
gone-before plan m n (Dropped k ∷ past) run h l =
    elim (or_cases (leaves m (Dropped k)) (is_gone m past) h) [
      | inl here ↦ (
          let same = eqb-true k.0 m here in
          let queued = (dropping-of past k run.0).0 in
          let before = not-false (is_gone n past) (least-passes (request_count past) (λ i. not (is_gone i past)) k.0 n queued (rw same l)) in
          any-behind (leaves n) (Dropped k) past before
          )
      | inr before ↦ any-behind (leaves n) (Dropped k) past (gone-before plan m n past run.1 before l)
    ]
gone-before plan m n (e ∷ past) run h l = any-behind (leaves n) e past (gone-before plan m n past run.1 h l)

-- what isn't returned and has no error comes after all fills so far
fills-before : (plan : Plan) (n s : ℕ) (past : List ReEntry) → IsRun plan past → is_returned n s past ≡ false → has_error n past ≡ false → list_any (drops n) past ≡ false → list_all (is_fill_before n s) past ≡ true
fills-before plan n s [] run out sound kept = refl
fills-before plan n s (Fill m t c d ∷ past) run out sound kept =
    let out' = or_parts ((m.0 == n) && (t.0 == s)) (is_returned n s past) out in
    let ih = fills-before plan n s past run.1 out'.1 sound kept in
    let filling = filling-of plan past m t c d run.0 in
    elim (cases_Bool (t.0 == s)) [
      | inr other ↦ rw other ih
      | inl here ↦ elim (cases_order m.0 n) [
        | inl same ↦ absurd (both_ways ((m.0 == n) && (t.0 == s)) out'.0 (and_from (m.0 == n) (t.0 == s) (eq-eqb m.0 n same) here))
        | inr o ↦ elim o [
          | inl less ↦ rw (here, lt-ltb m.0 n less) ih
          | inr more ↦ absurd (
              let next = all_below-at m.0 (λ k. not (is_taken k past) || (is_returned k t.0 past || has_error k past)) n filling.next more in
              let back : is_returned n t.0 past ≡ false = rw (eqb-true t.0 s here) out'.1 in
              let next' = rw (back, sound) at next in
              let gone = gone-before plan m.0 n past run.1 (taken-gone m.0 past (output_of-taken m.0 t.0 past c.0 filling.output)) more in
              let split = any-or (takes n) (drops n) past in
              elim (or_cases (is_taken n past) (list_any (drops n) past) (sym split ∙ gone)) [
                | inl taken ↦ (let wrong = rw taken at next' in false≢true wrong)
                | inr dropped ↦ both_ways (list_any (drops n) past) kept dropped
              ]
              )
        ]
      ]
    ]
fills-before plan n s (e ∷ past) run out sound kept =
    fills-before plan n s past run.1 (or_parts (is_return_of n s e) (is_returned n s past) out).1 (or_parts (is_error_of n e) (has_error n past) sound).1 (or_parts (drops n e) (list_any (drops n) past) kept).1

pub filled-rise : (plan : Plan) (past : List ReEntry) → IsRun plan past → fills_rise past ≡ true
filled-rise plan [] run = refl
filled-rise plan (Fill n s c d ∷ past) run =
    let filling = filling-of plan past n s c d run.0 in
    let fresh = return-fresh plan n.0 s.0 c.0 past run.1 filling.output filling.held in
    let kept = taken-kept plan n.0 past run.1 (output_of-taken n.0 s.0 past c.0 filling.output) in
    and_from (list_all (is_fill_before n.0 s.0) past) (fills_rise past) (fills-before plan n.0 s.0 past run.1 fresh filling.sound kept) (filled-rise plan past run.1)
filled-rise plan (e ∷ past) run = filled-rise plan past run.1

-- ---- candidates

pub some-kept : {X : Type 0} (p : X → Bool) (xs : List X) → list_any p xs ≡ true → 1 ≤ length (filter p xs)
some-kept p [] h = absurd (false≢true h)
some-kept p (x ∷ xs) h =
    elim (cases_Bool (p x)) [
      | inl here ↦ rw here (omega arith)
      | inr other ↦ (let h' = rw other at h in rw other (some-kept p xs h'))
    ]
