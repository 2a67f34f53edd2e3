-- How many buffers of a stream are at the device, from the rows: each goes with the row that has it out.
use Rattle.std.proofs.Common.{◌≡◌, ℕ, zero, suc, ◌==◌, ◌+◌, Bool, true, false, ◌&&◌, ◌||◌, not, List, [], ◌∷◌, Option, Some, None, refl, sym, ◌∙◌, arith, inl, inr, is_some, nat_lt, slice_get}
use Rattle.std.specs.List.{list_any, list_all, range_with_len}
use Rattle.std.proofs.lemmas.Bool.{and_parts, cases_Bool, eq-eqb, eqb-true, false≢true, ltb-true, ne_eqb, not-true, or_right}
use Rattle.cam_types.specs.declared.reply.Made.{Made}
use Rattle.cam_types.specs.declared.script.Script.{Script}
use Rattle.trace_model.specs.declared.entry.Entry.{Entry}
use Rattle.trace_model.specs.declared.entry.Sent.{Sent}
use Rattle.trace_model.specs.Configuration.{buffers_of, made, numbers_of}
use Rattle.trace_model.specs.Frames.{frames, has_target, is_sent, target_of, targets_of}
use Rattle.trace_model.specs.Legal.{IsLegal}
use Rattle.trace_model.specs.Open.{is_returned}
use Rattle.trace_model.specs.Place.{Device, is_at, is_at_device_by, place}
use Rattle.trace_model.proofs.LawLemmas.{at-device}
use Rattle.trace_laws.proofs.Printed.{one-of-all}
use Rattle.trace_laws.proofs.StreamLemmas.{IsOwn, at-device-own}
use Rattle.trace_laws.proofs.Once.{out-not-returned}
use Rattle.trace_laws.proofs.Own.{at-device-by-some}
use Rattle.trace_laws.proofs.BufferSends.{frames-sent, holds, is_distinct, out-sent, out-target}
use Rattle.state_facts.specs.Row.{in_order, is_open_row, row_of, target_at}
use Rattle.state_facts.specs.FrameReadings.{OutReads, is_out_for}
use Rattle.trace_laws.proofs.Streams.{one-stream}
use Rattle.state_facts.proofs.Errors.{done-returned}
use Rattle.state_facts.proofs.Last.{falls}
use Rattle.state_facts.proofs.OpenRows.{IsDone, closed-done, frame-among}
use Rattle.state_facts.proofs.Order.{count-order, order-sent}
use Rattle.trace_laws.proofs.Out.{one-holder, not-returned-out}
use Rattle.state_facts.proofs.Pairs.{count-length, count-rows, count-where, pairs}
use Rattle.basic_lemmas.proofs.Lists.{all-where, all-always, any-mapped, any-at, any-found}
use Rattle.basic_lemmas.proofs.Ranges.{in-range}
use Rattle.trace_laws.proofs.Frames.{frames-fall}
use Rattle.basic_lemmas.proofs.Tests.{two-ways}

-- ---- distinct numbers

falling_distinct : (xs : List ℕ) → falls xs ≡ true → is_distinct xs ≡ true
falling_distinct [] h = refl
falling_distinct (x ∷ xs) h =
    let parts = and_parts (list_all (λ y. nat_lt y x) xs) (falls xs) h in
    rw (once x xs parts.0, falling_distinct xs parts.1) refl
  where
    once : (x : ℕ) (xs : List ℕ) → list_all (λ y. nat_lt y x) xs ≡ true → list_any (λ y. y == x) xs ≡ false
    once x [] h = refl
    once x (y ∷ ys) h =
        let parts = and_parts (nat_lt y x) (list_all (λ z. nat_lt z x) ys) h in
        let less = ltb-true y x parts.0 in
        rw (ne_eqb y x (λ at. absurd (omega (arith, less, at))), once x ys parts.1) refl

range_distinct : (a n : ℕ) → is_distinct (range_with_len a n) ≡ true
range_distinct a zero = refl
range_distinct a (suc n) =
    elim (cases_Bool (list_any (λ c. c == a) (range_with_len (a + 1) n))) [
      | inl again ↦ (let within = in-range (a + 1) n a again in absurd (omega (arith, within.0)))
      | inr once ↦ rw (once, range_distinct (a + 1) n) refl
    ]

buffers_distinct : (o : Option Made) → is_distinct (numbers_of o) ≡ true
buffers_distinct (Some m) = range_distinct m.first.0 m.count
buffers_distinct None = refl

-- ---- the pairs

same_held : (o : Option Sent) (b c : ℕ) → holds b o ≡ true → holds c o ≡ true → b ≡ c
same_held None b c h k = absurd (false≢true h)
same_held (Some t) b c h k = sym (eqb-true t.buffer.0 b h) ∙ eqb-true t.buffer.0 c k

-- a buffer is at the device where some frame has it out
buffer_out : (script : Script) (past : List Entry) (s b : ℕ) → IsLegal script past → IsOwn past s b → is_at (place b past) Device ≡ list_any (λ n. is_at_device_by n s b past) (frames past)
buffer_out script past s b legal own = two-ways (is_at (place b past) Device) (list_any (λ n. is_at_device_by n s b past) (frames past)) to from
  where
    to : is_at (place b past) Device ≡ true → list_any (λ n. is_at_device_by n s b past) (frames past) ≡ true
    to at =
        let by = at-device-by-some past b at in
        let out : is_at_device_by by.0 by.1 b past ≡ true = by.2 in
        let same : by.1 ≡ s = one-stream script past by.1 s b legal (at-device-own script past by.0 by.1 b legal out) own in
        let out' : is_at_device_by by.0 s b past ≡ true = rw same at out in
        any-at (λ n. is_at_device_by n s b past) (frames past) by.0 (frame-among by.0 past ∙ out-sent past by.0 s b out') out'

    from : list_any (λ n. is_at_device_by n s b past) (frames past) ≡ true → is_at (place b past) Device ≡ true
    from any = one-of-all (is_at (place b past) Device ≡ true) (λ n. true) (λ n. is_at_device_by n s b past) (frames past) (λ n _ out. rw (at-device n s b past out) refl) (all-always (λ n. true) (frames past) (λ n. refl)) any

-- a frame has one of the stream's buffers out where its row says so
pub row-out : (script : Script) (past : List Entry) (n s : ℕ) → is_out_for s (row_of script past n) ≡ (has_target n s past && not (is_returned n s past))
row-out script past n s = any-mapped (λ t. (t.sent.stream.0 == s) && not t.returned) (target_at n past) (targets_of n past) ∙ of_stream (targets_of n past)
  where
    again : (a b : Bool) → (a || (b && a)) ≡ a
    again true b = refl
    again false true = refl
    again false false = refl

    of_stream : (ts : List Sent) → list_any (λ t. (t.stream.0 == s) && not (is_returned n t.stream.0 past)) ts ≡ (list_any (λ t. t.stream.0 == s) ts && not (is_returned n s past))
    of_stream [] = refl
    of_stream (t ∷ ts) =
        elim (cases_Bool (t.stream.0 == s)) [
          | inl here ↦ (let at = eqb-true t.stream.0 s here in rw (here, at, of_stream ts) (again (not (is_returned n s past)) (list_any (λ u. u.stream.0 == s) ts)))
          | inr other ↦ rw other (of_stream ts)
        ]

frame_out : (script : Script) (past : List Entry) (n s : ℕ) → IsLegal script past → is_out_for s (row_of script past n) ≡ list_any (λ b. is_at_device_by n s b past) (buffers_of past s)
frame_out script past n s legal = row-out script past n s ∙ two-ways (has_target n s past && not (is_returned n s past)) (list_any (λ b. is_at_device_by n s b past) (buffers_of past s)) to from
  where
    by_target : (o : Option Sent) → target_of n s past ≡ o → is_some o ≡ true → is_returned n s past ≡ false → list_any (λ b. is_at_device_by n s b past) (buffers_of past s) ≡ true
    by_target None at has out = absurd (false≢true has)
    by_target (Some t) at has out =
        let by = not-returned-out script past n s t legal at out in
        any-at (λ b. is_at_device_by n s b past) (buffers_of past s) t.buffer.0 (at-device-own script past n s t.buffer.0 legal by) by

    to : (has_target n s past && not (is_returned n s past)) ≡ true → list_any (λ b. is_at_device_by n s b past) (buffers_of past s) ≡ true
    to h =
        let parts = and_parts (has_target n s past) (not (is_returned n s past)) h in
        by_target (target_of n s past) refl (sym (any-found (λ t. t.stream.0 == s) (targets_of n past)) ∙ parts.0) (not-true (is_returned n s past) parts.1)

    held_some : (b : ℕ) (o : Option Sent) → holds b o ≡ true → is_some o ≡ true
    held_some b (Some t) h = refl
    held_some b None h = absurd (false≢true h)

    from : list_any (λ b. is_at_device_by n s b past) (buffers_of past s) ≡ true → (has_target n s past && not (is_returned n s past)) ≡ true
    from any =
        one-of-all ((has_target n s past && not (is_returned n s past)) ≡ true) (λ b. true) (λ b. is_at_device_by n s b past) (buffers_of past s)
        (λ b _ out. rw (any-found (λ t. t.stream.0 == s) (targets_of n past), held_some b (target_of n s past) (out-target script past n s b legal out), out-not-returned script past n s b legal out) refl)
        (all-always (λ b. true) (buffers_of past s) (λ b. refl)) any

pub done_not_out : (script : Script) (past : List Entry) (n s : ℕ) → IsDone past n → is_out_for s (row_of script past n) ≡ false
done_not_out script past n s done = row-out script past n s ∙ came (has_target n s past) (is_returned n s past) (done-returned past n s done)
  where
    came : (a b : Bool) → (not a || b) ≡ true → (a && not b) ≡ false
    came true true h = refl
    came true false h = absurd (false≢true h)
    came false b h = refl

all_own : (past : List Entry) (s : ℕ) → list_all (λ b. list_any (λ c. c == b) (buffers_of past s)) (buffers_of past s) ≡ true
all_own past s = among_itself (buffers_of past s)
  where
    among_itself : (xs : List ℕ) → list_all (λ b. list_any (λ c. c == b) xs) xs ≡ true
    among_itself [] = refl
    among_itself (x ∷ xs) = rw (eq-eqb x x refl) (all-where (λ b. list_any (λ c. c == b) xs) (λ b. list_any (λ c. c == b) (x ∷ xs)) xs (λ b h. or_right (x == b) (list_any (λ c. c == b) xs) h) (among_itself xs))

pub out_reads : (script : Script) (past : List Entry) → OutReads script past
out_reads script past legal s =
    let r : ℕ → ℕ → Bool = λ n b. is_at_device_by n s b past in
    let bs = buffers_of past s in
    let ns = frames past in
    let left = count-where (λ b. list_any (λ c. c == b) bs) (λ b. is_at (place b past) Device) (λ b. list_any (λ n. r n b) ns) bs (λ b own. buffer_out script past s b legal own) (all_own past s) in
    let right = count-where (λ n. is_sent n past) (λ n. is_out_for s (row_of script past n)) (λ n. list_any (r n) bs) ns (λ n sent. frame_out script past n s legal) (frames-sent past) in
    let rows = count-rows (λ n. is_sent n past) is_open_row (is_out_for s) (row_of script past) (in_order past) (λ n sent closed. done_not_out script past n s (closed-done script past n legal sent closed)) (order-sent past) in
    let order = count-order (λ n. is_out_for s (row_of script past n)) past in
    let both = pairs r ns bs (λ n b c out out'. same_held (target_of n s past) b c (out-target script past n s b legal out) (out-target script past n s c legal out')) (λ b n m out out'. (one-holder script past n m s s b legal out out').0) (falling_distinct ns (frames-fall script past legal)) (buffers_distinct (slice_get (made past) s)) in
    count-length (λ b. is_at (place b past) Device) bs ∙ (left ∙ (sym both ∙ (sym right ∙ (sym order ∙ sym rows))))
