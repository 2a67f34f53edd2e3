-- What is at the device, by which request, and what stands of a request.
use Rattle.std.proofs.Common.{◌≡◌, ℕ, ◌==◌, ◌+◌, ◌*◌, ◌<◌, ◌≤◌, Bool, true, false, ◌&&◌, ◌||◌, not, List, [], ◌∷◌, Option, Some, None, inl, inr, refl, sym, ap, ◌∙◌, arith, is_some}
use Rattle.std.specs.Option.{option_map}
use Rattle.std.proofs.lemmas.Bool.{and_parts, and_from, both_ways, cases_Bool, eqb-true, eq-eqb, ne_eqb, not-true, or_cases, or_parts, or_left, or_right, false≢true}
use Rattle.basic_lemmas.proofs.Lists.{any-behind, any-where}
use Rattle.basic_lemmas.proofs.Tests.{not-by}
use Rattle.cam_types.specs.declared.four.Four.{Four}
use Rattle.cam_types.specs.declared.stream.StreamSpec.{StreamSpec}
use Rattle.reprocess_model.specs.declared.entry.ReEntry.{ReEntry}
use Rattle.reprocess_model.specs.declared.entry.ReEntry.TheVariants.{Take, Failed, Fill, Input}
use Rattle.reprocess_model.specs.declared.entry.ReOut.{ReOut}
use Rattle.reprocess_model.specs.declared.plan.Plan.{Plan}
use Rattle.reprocess_model.specs.Due.{out_for}
use Rattle.reprocess_model.specs.Lines.{takes, leaves, is_return_of}
use Rattle.reprocess_model.specs.Past.{request_count, is_taken, is_gone, least_queued, is_returned, has_input, input_of, output_of, buffer_at, input_holder, output_holder, is_buffer, has_buffer, is_input_home, is_output_home, least_input, least_output}
use Rattle.reprocess_model.specs.Places.{at_place}
use Rattle.reprocess_model.specs.Run.{IsRun}
use Rattle.reprocess_model.proofs.Found.{found-passes, in-row, some-or-none}
use Rattle.reprocess_model.proofs.Facts.{outs_for, taking-of, failing-of, filling-of, inputting-of}

-- ---- a request that is taken was not gone

pub taken-gone : (n : ℕ) (past : List ReEntry) → is_taken n past ≡ true → is_gone n past ≡ true
taken-gone n past h = any-where (takes n) (leaves n) past (λ e t. or_left (takes n e) _ t) h

pub queued-fresh : (past : List ReEntry) (n : ℕ) → least_queued past ≡ Some n → (n < request_count past) × (is_gone n past ≡ false)
queued-fresh past n h =
    let found = found-passes (request_count past) (λ n. not (is_gone n past)) n h in
    (found.0, not-true (is_gone n past) found.1)

pub queued-untaken : (past : List ReEntry) (n : ℕ) → least_queued past ≡ Some n → is_taken n past ≡ false
queued-untaken past n h = not-by (is_taken n past) (is_gone n past) (taken-gone n past) (queued-fresh past n h).1

-- ---- what stands of a request that was taken

pub input_of-taken : (n : ℕ) (past : List ReEntry) (i : ℕ) → input_of n past ≡ Some i → is_taken n past ≡ true
input_of-taken n [] i h = absurd (cc)
input_of-taken n (Take m j outs ∷ past) i h =
    elim (cases_Bool (m.0 == n)) [
      | inl here ↦ rw here refl
      | inr other ↦ (let h' = rw other at h in rw other (input_of-taken n past i h'))
    ]
input_of-taken n (_ ∷ past) i h = input_of-taken n past i h

pub output_of-taken : (n s : ℕ) (past : List ReEntry) (b : ℕ) → output_of n s past ≡ Some b → is_taken n past ≡ true
output_of-taken n s [] b h = absurd (cc)
output_of-taken n s (Take m j outs ∷ past) b h =
    elim (cases_Bool (m.0 == n)) [
      | inl here ↦ rw here refl
      | inr other ↦ (let h' = rw other at h in rw other (output_of-taken n s past b h'))
    ]
output_of-taken n s (_ ∷ past) b h = output_of-taken n s past b h

-- the least input buffer is one of three, and at home
pub least_input-home : (past : List ReEntry) (i : ℕ) → least_input past ≡ Some i → (i < 3) × (input_holder i past ≡ None)
least_input-home past i h =
    let found = found-passes 3 (is_input_home past) i h in
    elim (some-or-none (input_holder i past)) [
      | inl none ↦ (found.0, none)
      | inr some ↦ absurd (let at = found.1 in let at' = rw some.1 at at in false≢true at')
    ]

pub taken-input : (plan : Plan) (n : ℕ) (past : List ReEntry) → IsRun plan past → is_taken n past ≡ true → (i : ℕ) × (input_of n past ≡ Some i) × (i < 3)
taken-input plan n [] run h = absurd (false≢true h)
taken-input plan n (Take m j outs ∷ past) run h =
    let taking = taking-of plan past m j outs run.0 in
    elim (cases_Bool (m.0 == n)) [
      | inl here ↦ (j.0, rw here refl, (least_input-home past j.0 taking.input).0)
      | inr other ↦ (let h' = rw other at h in let ih = taken-input plan n past run.1 h' in (ih.0, rw other ih.1, ih.2))
    ]
taken-input plan n (_ ∷ past) run h = taken-input plan n past run.1 h

pub has_input-taken : (plan : Plan) (n : ℕ) (past : List ReEntry) → IsRun plan past → has_input n past ≡ true → is_taken n past ≡ true
has_input-taken plan n [] run h = absurd (false≢true h)
has_input-taken plan n (Take m j outs ∷ past) run h =
    any-behind (takes n) (Take m j outs) past (has_input-taken plan n past run.1 h)
has_input-taken plan n (Input m j ∷ past) run h =
    elim (cases_Bool (m.0 == n)) [
      | inl here ↦ (
          let given = inputting-of plan past m j run.0 in
          let taken = input_of-taken m.0 past j.0 given.0 in
          rw (eqb-true m.0 n here) at taken
          )
      | inr other ↦ (let h' = rw other at h in has_input-taken plan n past run.1 h')
    ]
has_input-taken plan n (_ ∷ past) run h = has_input-taken plan n past run.1 h

pub returned-taken : (plan : Plan) (n s : ℕ) (past : List ReEntry) → IsRun plan past → is_returned n s past ≡ true → is_taken n past ≡ true
returned-taken plan n s [] run h = absurd (false≢true h)
returned-taken plan n s (Take m j outs ∷ past) run h =
    any-behind (takes n) (Take m j outs) past (returned-taken plan n s past run.1 h)
returned-taken plan n s (Failed m t c ∷ past) run h =
    elim (or_cases (is_return_of n s (Failed m t c)) (is_returned n s past) h) [
      | inl here ↦ (
          let parts = and_parts (m.0 == n) (t.0 == s) here in
          let given = failing-of past m t c run.0 in
          let taken = output_of-taken m.0 t.0 past c.0 given.0 in
          rw (eqb-true m.0 n parts.0) at taken
          )
      | inr before ↦ returned-taken plan n s past run.1 before
    ]
returned-taken plan n s (Fill m t c d ∷ past) run h =
    elim (or_cases (is_return_of n s (Fill m t c d)) (is_returned n s past) h) [
      | inl here ↦ (
          let parts = and_parts (m.0 == n) (t.0 == s) here in
          let given = filling-of plan past m t c d run.0 in
          let taken = output_of-taken m.0 t.0 past c.0 given.output in
          rw (eqb-true m.0 n parts.0) at taken
          )
      | inr before ↦ returned-taken plan n s past run.1 before
    ]
returned-taken plan n s (_ ∷ past) run h = returned-taken plan n s past run.1 h

-- what would stand of a request that is not taken
untaken : (n : ℕ) (past : List ReEntry) (t : Bool) → (t ≡ true → is_taken n past ≡ true) → is_taken n past ≡ false → t ≡ false
untaken n past t h none = not-by t (is_taken n past) h none

-- ---- inputs

-- a request that holds an input buffer was taken with it, and its input isn't back
pub input-held : (plan : Plan) (i n : ℕ) (past : List ReEntry) → IsRun plan past → input_holder i past ≡ Some n → (input_of n past ≡ Some i) × (has_input n past ≡ false)
input-held plan i n [] run h = absurd (cc)
input-held plan i n (Take m j outs ∷ past) run h =
    let taking = taking-of plan past m j outs run.0 in
    let fresh = queued-untaken past m.0 taking.queued in
    elim (cases_Bool (j.0 == i)) [
      | inl here ↦ (
          let h' = rw here at h in
          let same : m.0 ≡ n = cc in
          let mine : (m.0 == n) ≡ true = eq-eqb m.0 n same in
          let fresh' = rw same at fresh in
          (rw mine (ap Some (eqb-true j.0 i here)), untaken n past (has_input n past) (has_input-taken plan n past run.1) fresh')
          )
      | inr other ↦ (
          let h' = rw other at h in
          let ih = input-held plan i n past run.1 h' in
          let taken = input_of-taken n past i ih.0 in
          let mine : (m.0 == n) ≡ false = ne_eqb m.0 n (λ same. let fresh' = rw same at fresh in both_ways (is_taken n past) fresh' taken) in
          (rw mine ih.0, ih.1)
          )
    ]
input-held plan i n (Input m j ∷ past) run h =
    elim (cases_Bool (j.0 == i)) [
      | inl here ↦ (let h' = rw here at h in absurd (cc))
      | inr other ↦ (
          let h' = rw other at h in
          let ih = input-held plan i n past run.1 h' in
          let given = inputting-of plan past m j run.0 in
          let mine : (m.0 == n) ≡ false = ne_eqb m.0 n (λ same. let at = given.0 in let at' = rw same at at in let both : i ≡ j.0 = cc in both_ways (j.0 == i) other (eq-eqb j.0 i (sym both))) in
          (ih.0, rw mine ih.1)
          )
    ]
input-held plan i n (_ ∷ past) run h = input-held plan i n past run.1 h

-- and a request whose input isn't back holds the buffer that it was taken with
pub input-holds : (plan : Plan) (i n : ℕ) (past : List ReEntry) → IsRun plan past → input_of n past ≡ Some i → has_input n past ≡ false → input_holder i past ≡ Some n
input-holds plan i n [] run h none = absurd (cc)
input-holds plan i n (Take m j outs ∷ past) run h none =
    let taking = taking-of plan past m j outs run.0 in
    elim (cases_Bool (m.0 == n)) [
      | inl here ↦ (
          let h' = rw here at h in
          let same : j.0 ≡ i = cc in
          rw (eq-eqb j.0 i same) (ap Some (eqb-true m.0 n here))
          )
      | inr other ↦ (
          let h' = rw other at h in
          let ih = input-holds plan i n past run.1 h' none in
          let free = (least_input-home past j.0 taking.input).1 in
          let away : (j.0 == i) ≡ false = ne_eqb j.0 i (λ same. let free' = rw same at free in cc) in
          rw away ih
          )
    ]
input-holds plan i n (Input m j ∷ past) run h none =
    let parts = or_parts (m.0 == n) (has_input n past) none in
    let ih = input-holds plan i n past run.1 h parts.1 in
    let given = inputting-of plan past m j run.0 in
    let away : (j.0 == i) ≡ false = ne_eqb j.0 i (λ same. let at = given.1 in let at' = rw same at at in let both : m.0 ≡ n = cc in both_ways (m.0 == n) parts.0 (eq-eqb m.0 n both)) in
    rw away ih
input-holds plan i n (_ ∷ past) run h none = input-holds plan i n past run.1 h none

-- ---- outputs

-- the least buffer of an output is one of its four, and at home
pub least_output-home : (past : List ReEntry) (s b : ℕ) → least_output s past ≡ Some b → (4 * s ≤ b) × (b < 4 * s + 4) × (output_holder b past ≡ None)
least_output-home past s b h =
    let found = in-row (is_output_home past) (4 * s) 4 b h in
    elim (some-or-none (output_holder b past)) [
      | inl none ↦ (found.0, found.1, none)
      | inr some ↦ absurd (let at = found.2 in let at' = rw some.1 at at in false≢true at')
    ]

out-buffer : (past : List ReEntry) (s : ℕ) (spec : Option StreamSpec) (b : ℕ) → option_map (λ o. o.buffer.0) (out_for s spec past) ≡ Some b → (is_some spec ≡ true) × (least_output s past ≡ Some b)
out-buffer past s None b h = absurd (cc)
out-buffer past s (Some spec) b h =
    elim (some-or-none (least_output s past)) [
      | inl none ↦ absurd (let h' = rw none at h in cc)
      | inr some ↦ (let h' = rw some.1 at h in let same : some.0 ≡ b = cc in (refl, some.1 ∙ ap Some same))
    ]

-- the buffer that a request is taken with for an output: the plan has the output, and the buffer is its least at home
pub taken-buffer : (plan : Plan) (past : List ReEntry) (s b : ℕ) → buffer_at (outs_for plan past) s ≡ Some b → (is_some (at_place plan.outputs s) ≡ true) × (least_output s past ≡ Some b)
taken-buffer plan past s b h =
    elim (cases_Bool (s == 0)) [
      | inl zero' ↦ (let h' = rw zero' at h in let at = out-buffer past 0 plan.outputs.a b h' in rw zero' (at.0, rw (eqb-true s 0 zero') at.1))
      | inr no0 ↦ elim (cases_Bool (s == 1)) [
        | inl one ↦ (let h' = rw (no0, one) at h in let at = out-buffer past 1 plan.outputs.b b h' in rw (no0, one) (at.0, rw (eqb-true s 1 one) at.1))
        | inr no1 ↦ elim (cases_Bool (s == 2)) [
          | inl two ↦ (let h' = rw (no0, no1, two) at h in let at = out-buffer past 2 plan.outputs.c b h' in rw (no0, no1, two) (at.0, rw (eqb-true s 2 two) at.1))
          | inr no2 ↦ elim (cases_Bool (s == 3)) [
            | inl three ↦ (let h' = rw (no0, no1, no2, three) at h in let at = out-buffer past 3 plan.outputs.d b h' in rw (no0, no1, no2, three) (at.0, rw (eqb-true s 3 three) at.1))
            | inr no3 ↦ absurd (let h' = rw (no0, no1, no2, no3) at h in cc)
          ]
        ]
      ]
    ]

is-buffer-some : (b : ℕ) (o : Option ReOut) → is_buffer b o ≡ true → option_map (λ o. o.buffer.0) o ≡ Some b
is-buffer-some b (Some o) h = ap Some (eqb-true o.buffer.0 b h)
is-buffer-some b None h = absurd (cc)

some-is-buffer : (b : ℕ) (o : Option ReOut) → option_map (λ o. o.buffer.0) o ≡ Some b → is_buffer b o ≡ true
some-is-buffer b (Some o) h = let same : o.buffer.0 ≡ b = cc in eq-eqb o.buffer.0 b same
some-is-buffer b None h = absurd (cc)

-- a buffer of a take is that of some output
has-buffer-at : (b : ℕ) (outs : Four ReOut) → has_buffer b outs ≡ true → (s : ℕ) × (buffer_at outs s ≡ Some b)
has-buffer-at b outs h =
    elim (or_cases (is_buffer b outs.a) (is_buffer b outs.b || (is_buffer b outs.c || is_buffer b outs.d)) h) [
      | inl a ↦ (0, is-buffer-some b outs.a a)
      | inr h' ↦ elim (or_cases (is_buffer b outs.b) (is_buffer b outs.c || is_buffer b outs.d) h') [
        | inl b' ↦ (1, is-buffer-some b outs.b b')
        | inr h'' ↦ elim (or_cases (is_buffer b outs.c) (is_buffer b outs.d) h'') [
          | inl c ↦ (2, is-buffer-some b outs.c c)
          | inr d ↦ (3, is-buffer-some b outs.d d)
        ]
      ]
    ]

at-has-buffer : (b s : ℕ) (outs : Four ReOut) → buffer_at outs s ≡ Some b → has_buffer b outs ≡ true
at-has-buffer b s outs h =
    elim (cases_Bool (s == 0)) [
      | inl zero' ↦ (let h' = rw zero' at h in or_left (is_buffer b outs.a) (is_buffer b outs.b || (is_buffer b outs.c || is_buffer b outs.d)) (some-is-buffer b outs.a h'))
      | inr no0 ↦ elim (cases_Bool (s == 1)) [
        | inl one ↦ (let h' = rw (no0, one) at h in or_right (is_buffer b outs.a) _ (or_left (is_buffer b outs.b) (is_buffer b outs.c || is_buffer b outs.d) (some-is-buffer b outs.b h')))
        | inr no1 ↦ elim (cases_Bool (s == 2)) [
          | inl two ↦ (let h' = rw (no0, no1, two) at h in or_right (is_buffer b outs.a) _ (or_right (is_buffer b outs.b) _ (or_left (is_buffer b outs.c) (is_buffer b outs.d) (some-is-buffer b outs.c h'))))
          | inr no2 ↦ elim (cases_Bool (s == 3)) [
            | inl three ↦ (let h' = rw (no0, no1, no2, three) at h in or_right (is_buffer b outs.a) _ (or_right (is_buffer b outs.b) _ (or_right (is_buffer b outs.c) _ (some-is-buffer b outs.d h'))))
            | inr no3 ↦ absurd (let h' = rw (no0, no1, no2, no3) at h in cc)
          ]
        ]
      ]
    ]

-- a buffer of a take was at home
pub has-buffer-home : (plan : Plan) (past : List ReEntry) (b : ℕ) → has_buffer b (outs_for plan past) ≡ true → output_holder b past ≡ None
has-buffer-home plan past b h =
    let at = has-buffer-at b (outs_for plan past) h in
    (least_output-home past at.0 b (taken-buffer plan past at.0 b at.1).1).2

-- the buffer of a request for an output is one of the output's four, and the plan has the output
pub output-range : (plan : Plan) (n s b : ℕ) (past : List ReEntry) → IsRun plan past → output_of n s past ≡ Some b → (is_some (at_place plan.outputs s) ≡ true) × (4 * s ≤ b) × (b < 4 * s + 4)
output-range plan n s b [] run h = absurd (cc)
output-range plan n s b (Take m j outs ∷ past) run h =
    let taking = taking-of plan past m j outs run.0 in
    elim (cases_Bool (m.0 == n)) [
      | inl here ↦ (
          let h' = rw (here, ← taking.buffers) at h in
          let at = taken-buffer plan past s b h' in
          let home = least_output-home past s b at.1 in
          (at.0, home.0, home.1)
          )
      | inr other ↦ (let h' = rw other at h in output-range plan n s b past run.1 h')
    ]
output-range plan n s b (_ ∷ past) run h = output-range plan n s b past run.1 h

-- so no two outputs have one buffer
pub output-apart : (plan : Plan) (n m s t b : ℕ) (past : List ReEntry) → IsRun plan past → output_of n s past ≡ Some b → output_of m t past ≡ Some b → s ≡ t
output-apart plan n m s t b past run h k =
    let left = output-range plan n s b past run h in
    let right = output-range plan m t b past run k in
    omega (arith, left.1, left.2, right.1, right.2)

other-return : (m n t s c b : ℕ) (past : List ReEntry) → output_of m t past ≡ Some c → output_of n s past ≡ Some b → (c == b) ≡ false → ((m == n) && (t == s)) ≡ false
other-return m n t s c b past mine yours away =
    elim (cases_Bool ((m == n) && (t == s))) [
      | inl same ↦ absurd (
          let parts = and_parts (m == n) (t == s) same in
          let mine' = rw (eqb-true m n parts.0, eqb-true t s parts.1) at mine in
          let both : c ≡ b = cc in
          both_ways (c == b) away (eq-eqb c b both)
          )
      | inr no' ↦ no'
    ]

-- a request that holds an output buffer was taken with it, and it isn't back
pub output-held : (plan : Plan) (b n : ℕ) (past : List ReEntry) → IsRun plan past → output_holder b past ≡ Some n → (s : ℕ) × (output_of n s past ≡ Some b) × (is_returned n s past ≡ false)
output-held plan b n [] run h = absurd (cc)
output-held plan b n (Take m j outs ∷ past) run h =
    let taking = taking-of plan past m j outs run.0 in
    let fresh = queued-untaken past m.0 taking.queued in
    elim (cases_Bool (has_buffer b outs)) [
      | inl here ↦ (
          let h' = rw here at h in
          let same : m.0 ≡ n = cc in
          let fresh' = rw same at fresh in
          let at = has-buffer-at b outs here in
          (at.0, rw (eq-eqb m.0 n same) at.1, untaken n past (is_returned n at.0 past) (returned-taken plan n at.0 past run.1) fresh')
          )
      | inr other ↦ (
          let h' = rw other at h in
          let ih = output-held plan b n past run.1 h' in
          let taken = output_of-taken n ih.0 past b ih.1 in
          let mine : (m.0 == n) ≡ false = ne_eqb m.0 n (λ same. let fresh' = rw same at fresh in both_ways (is_taken n past) fresh' taken) in
          (ih.0, rw mine ih.1, ih.2)
          )
    ]
output-held plan b n (Failed m t c ∷ past) run h =
    elim (cases_Bool (c.0 == b)) [
      | inl here ↦ (let h' = rw here at h in absurd (cc))
      | inr other ↦ (
          let h' = rw other at h in
          let ih = output-held plan b n past run.1 h' in
          let given = failing-of past m t c run.0 in
          let away = other-return m.0 n t.0 ih.0 c.0 b past given.0 ih.1 other in
          (ih.0, ih.1, rw away ih.2)
          )
    ]
output-held plan b n (Fill m t c d ∷ past) run h =
    elim (cases_Bool (c.0 == b)) [
      | inl here ↦ (let h' = rw here at h in absurd (cc))
      | inr other ↦ (
          let h' = rw other at h in
          let ih = output-held plan b n past run.1 h' in
          let given = filling-of plan past m t c d run.0 in
          let away = other-return m.0 n t.0 ih.0 c.0 b past given.output ih.1 other in
          (ih.0, ih.1, rw away ih.2)
          )
    ]
output-held plan b n (_ ∷ past) run h = output-held plan b n past run.1 h

-- another buffer comes back
other-buffer : (plan : Plan) (m n t s c b : ℕ) (past : List ReEntry) → IsRun plan past → output_of m t past ≡ Some c → output_holder c past ≡ Some m → output_of n s past ≡ Some b → output_holder b past ≡ Some n → ((m == n) && (t == s)) ≡ false → (c == b) ≡ false
other-buffer plan m n t s c b past run mine held yours holds away =
    ne_eqb c b
    (λ same.
    let held' = rw same at held in
    let mine' = rw same at mine in
    let both : m ≡ n = cc in
    let place = output-apart plan m n t s b past run mine' yours in
    let here = and_from (m == n) (t == s) (eq-eqb m n both) (eq-eqb t s place) in
    both_ways ((m == n) && (t == s)) away here)

-- and a request whose buffer for an output isn't back holds it
pub output-holds : (plan : Plan) (n s b : ℕ) (past : List ReEntry) → IsRun plan past → output_of n s past ≡ Some b → is_returned n s past ≡ false → output_holder b past ≡ Some n
output-holds plan n s b [] run h none = absurd (cc)
output-holds plan n s b (Take m j outs ∷ past) run h none =
    let taking = taking-of plan past m j outs run.0 in
    elim (cases_Bool (m.0 == n)) [
      | inl here ↦ (
          let h' = rw here at h in
          rw (at-has-buffer b s outs h') (ap Some (eqb-true m.0 n here))
          )
      | inr other ↦ (
          let h' = rw other at h in
          let ih = output-holds plan n s b past run.1 h' none in
          elim (cases_Bool (has_buffer b outs)) [
            | inl mine ↦ absurd (let mine' = rw (← taking.buffers) at mine in let free = has-buffer-home plan past b mine' in cc)
            | inr away ↦ rw away ih
          ]
          )
    ]
output-holds plan n s b (Failed m t c ∷ past) run h none =
    let parts = or_parts ((m.0 == n) && (t.0 == s)) (is_returned n s past) none in
    let ih = output-holds plan n s b past run.1 h parts.1 in
    let given = failing-of past m t c run.0 in
    let away = other-buffer plan m.0 n t.0 s c.0 b past run.1 given.0 given.2 h ih parts.0 in
    rw away ih
output-holds plan n s b (Fill m t c d ∷ past) run h none =
    let parts = or_parts ((m.0 == n) && (t.0 == s)) (is_returned n s past) none in
    let ih = output-holds plan n s b past run.1 h parts.1 in
    let given = filling-of plan past m t c d run.0 in
    let away = other-buffer plan m.0 n t.0 s c.0 b past run.1 given.output given.held h ih parts.0 in
    rw away ih
output-holds plan n s b (_ ∷ past) run h none = output-holds plan n s b past run.1 h none
