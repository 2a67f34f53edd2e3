-- An input comes back after its outputs, so where all inputs are home all outputs are.
use Rattle.std.proofs.Common.{◌≡◌, ℕ, ◌==◌, ◌<◌, Bool, true, false, ◌&&◌, ◌||◌, List, [], ◌∷◌, Option, Some, None, inl, inr, refl, sym, ap, ◌∙◌, arith, is_some, is_none, subst}
use Rattle.std.specs.Option.{option_map}
use Rattle.std.proofs.lemmas.Bool.{and_parts, and_from, both_ways, cases_Bool, eqb-true, or_cases, false≢true}
use Rattle.basic_lemmas.proofs.Counts.{count-cons}
use Rattle.basic_lemmas.proofs.Lists.{any-behind}
use Rattle.cam_types.specs.declared.four.Four.{Four}
use Rattle.cam_types.specs.declared.stream.StreamSpec.{StreamSpec}
use Rattle.reprocess_model.specs.declared.entry.ReEntry.{ReEntry}
use Rattle.reprocess_model.specs.declared.entry.ReEntry.TheVariants.{Take, Dropped, Fill, Input}
use Rattle.reprocess_model.specs.declared.entry.ReOut.{ReOut}
use Rattle.reprocess_model.specs.declared.plan.Plan.{Plan}
use Rattle.reprocess_model.specs.Due.{all_returned, has_out, has_outs, is_faulty, out_for}
use Rattle.reprocess_model.specs.Lines.{is_called, is_return_of, leaves}
use Rattle.reprocess_model.specs.Past.{request_count, is_gone, is_taken, has_fill, is_returned, has_input, output_of, buffer_at, output_holder, is_input_home, all_inputs_home, all_outputs_home, least_output}
use Rattle.reprocess_model.specs.Places.{at_place, each_place}
use Rattle.reprocess_model.specs.Run.{IsRun}
use Rattle.reprocess_model.proofs.Found.{all_below-at, all_below-from, some-or-none}
use Rattle.reprocess_model.proofs.Facts.{outs_for, taking-of, dropping-of, filling-of, inputting-of}
use Rattle.reprocess_model.proofs.Held.{input-holds, output-held, output-range, output_of-taken, queued-fresh, taken-input}

or-more : (a p q : Bool) → (p ≡ true → q ≡ true) → (a || p) ≡ true → (a || q) ≡ true
or-more true p q h k = refl
or-more false p q h k = h k

-- a test that says less passes at each place too
each-more : {T : Type 0} (f : Four T) (p q : ℕ → Bool) → ((s : ℕ) → p s ≡ true → q s ≡ true) → each_place f p ≡ true → each_place f q ≡ true
each-more f p q h k =
    let x = and_parts (is_none f.a || p 0) ((is_none f.b || p 1) && ((is_none f.c || p 2) && (is_none f.d || p 3))) k in
    let y = and_parts (is_none f.b || p 1) ((is_none f.c || p 2) && (is_none f.d || p 3)) x.1 in
    let z = and_parts (is_none f.c || p 2) (is_none f.d || p 3) y.1 in
    and_from _ _ (or-more (is_none f.a) (p 0) (q 0) (h 0) x.0)
    (and_from _ _ (or-more (is_none f.b) (p 1) (q 1) (h 1) y.0)
    (and_from _ _ (or-more (is_none f.c) (p 2) (q 2) (h 2) z.0) (or-more (is_none f.d) (p 3) (q 3) (h 3) z.1)))

place-passes : {T : Type 0} (o : Option T) (b : Bool) → (is_none o || b) ≡ true → is_some o ≡ true → b ≡ true
place-passes None b h k = absurd (false≢true k)
place-passes (Some x) b h k = h

-- what stands at a place stands at one of the four
at-one : {T : Type 0} (f : Four T) (P : ℕ → Type 0) (s : ℕ) → (is_some f.a ≡ true → P 0) → (is_some f.b ≡ true → P 1) → (is_some f.c ≡ true → P 2) → (is_some f.d ≡ true → P 3) → is_some (at_place f s) ≡ true → P s
at-one f P s a b c d h =
    elim (cases_Bool (s == 0)) [
      | inl zero' ↦ (let h' = rw zero' at h in subst P (sym (eqb-true s 0 zero')) (a h'))
      | inr no0 ↦ elim (cases_Bool (s == 1)) [
        | inl one ↦ (let h' = rw (no0, one) at h in subst P (sym (eqb-true s 1 one)) (b h'))
        | inr no1 ↦ elim (cases_Bool (s == 2)) [
          | inl two ↦ (let h' = rw (no0, no1, two) at h in subst P (sym (eqb-true s 2 two)) (c h'))
          | inr no2 ↦ elim (cases_Bool (s == 3)) [
            | inl three ↦ (let h' = rw (no0, no1, no2, three) at h in subst P (sym (eqb-true s 3 three)) (d h'))
            | inr no3 ↦ absurd (let h' = rw (no0, no1, no2, no3) at h in false≢true h')
          ]
        ]
      ]
    ]

-- what holds at each place holds at one
pub each-at : {T : Type 0} (f : Four T) (p : ℕ → Bool) (s : ℕ) → each_place f p ≡ true → is_some (at_place f s) ≡ true → p s ≡ true
each-at f p s k h =
    let x = and_parts (is_none f.a || p 0) ((is_none f.b || p 1) && ((is_none f.c || p 2) && (is_none f.d || p 3))) k in
    let y = and_parts (is_none f.b || p 1) ((is_none f.c || p 2) && (is_none f.d || p 3)) x.1 in
    let z = and_parts (is_none f.c || p 2) (is_none f.d || p 3) y.1 in
    at-one f (λ i. p i ≡ true) s (place-passes f.a (p 0) x.0) (place-passes f.b (p 1) y.0) (place-passes f.c (p 2) z.0) (place-passes f.d (p 3) z.1) h

-- a place that fails
place-fails : {T : Type 0} (o : Option T) (b : Bool) → (is_none o || b) ≡ false → (is_some o ≡ true) × (b ≡ false)
place-fails None b h = absurd (cc)
place-fails (Some x) b h = (refl, h)

pub each-fails : {T : Type 0} (f : Four T) (p : ℕ → Bool) → each_place f p ≡ false → (s : ℕ) × (s < 4) × (is_some (at_place f s) ≡ true) × (p s ≡ false)
each-fails f p k =
    elim (cases_Bool (is_none f.a || p 0)) [
      | inr a ↦ (let at = place-fails f.a (p 0) a in (0, omega arith, at.0, at.1))
      | inl a ↦ (let k' = rw a at k in elim (cases_Bool (is_none f.b || p 1)) [
        | inr b ↦ (let at = place-fails f.b (p 1) b in (1, omega arith, at.0, at.1))
        | inl b ↦ (let k'' = rw b at k' in elim (cases_Bool (is_none f.c || p 2)) [
          | inr c ↦ (let at = place-fails f.c (p 2) c in (2, omega arith, at.0, at.1))
          | inl c ↦ (let k''' = rw c at k'' in let at = place-fails f.d (p 3) k''' in (3, omega arith, at.0, at.1))
        ])
      ])
    ]

still-returned : (plan : Plan) (n : ℕ) (e : ReEntry) (past : List ReEntry) → all_returned plan past n ≡ true → all_returned plan (e ∷ past) n ≡ true
still-returned plan n e past h =
    each-more plan.outputs (λ s. is_returned n s past) (λ s. is_returned n s (e ∷ past)) (λ s k. any-behind (is_return_of n s) e past k) h

pub input-returned : (plan : Plan) (n : ℕ) (past : List ReEntry) → IsRun plan past → has_input n past ≡ true → all_returned plan past n ≡ true
input-returned plan n [] run h = absurd (false≢true h)
input-returned plan n (Input m j ∷ past) run h =
    elim (cases_Bool (m.0 == n)) [
      | inl here ↦ (
          let given = inputting-of plan past m j run.0 in
          let all = given.2 in
          still-returned plan n (Input m j) past (rw (eqb-true m.0 n here) at all)
          )
      | inr other ↦ (let h' = rw other at h in still-returned plan n (Input m j) past (input-returned plan n past run.1 h'))
    ]
input-returned plan n (e ∷ past) run h = still-returned plan n e past (input-returned plan n past run.1 h)

-- where all inputs are home, so are all outputs
pub outputs-home : (plan : Plan) (b : ℕ) (past : List ReEntry) → IsRun plan past → all_inputs_home past ≡ true → output_holder b past ≡ None
outputs-home plan b past run home =
    elim (some-or-none (output_holder b past)) [
      | inl none ↦ none
      | inr some ↦ absurd (
          let n = some.0 in
          let held = output-held plan b n past run some.1 in
          let taken = output_of-taken n held.0 past b held.1 in
          let input = taken-input plan n past run taken in
          let range = output-range plan n held.0 b past run held.1 in
          elim (cases_Bool (has_input n past)) [
            | inl back ↦ (
                let all = input-returned plan n past run back in
                both_ways (is_returned n held.0 past) held.2 (each-at plan.outputs (λ s. is_returned n s past) held.0 all range.0)
                )
            | inr out ↦ (
                let holds = input-holds plan input.0 n past run input.1 out in
                let free = all_below-at 3 (is_input_home past) input.0 home input.2 in
                let free' = rw holds at free in
                false≢true free'
                )
          ]
          )
    ]

pub all-outputs-home : (plan : Plan) (past : List ReEntry) → IsRun plan past → all_inputs_home past ≡ true → all_outputs_home past ≡ true
all-outputs-home plan past run home =
    all_below-from 12 (λ b. is_none (output_holder b past)) (λ b l. rw (outputs-home plan b past run home) refl)

-- ---- each output of a request has a buffer

served-out : (past : List ReEntry) (s : ℕ) (spec : Option StreamSpec) → has_out s spec past ≡ true → is_some spec ≡ true → (b : ℕ) × (option_map (λ o. o.buffer.0) (out_for s spec past) ≡ Some b)
served-out past s None h k = absurd (false≢true k)
served-out past s (Some spec) h k =
    elim (some-or-none (least_output s past)) [
      | inl none ↦ absurd (let h' = rw none at h in false≢true h')
      | inr some ↦ (some.0, rw some.1 refl)
    ]

served-buffer : (plan : Plan) (past : List ReEntry) (s : ℕ) → has_outs plan past ≡ true → is_some (at_place plan.outputs s) ≡ true → (b : ℕ) × (buffer_at (outs_for plan past) s ≡ Some b)
served-buffer plan past s k h =
    let o = plan.outputs in
    let x = and_parts (has_out 0 o.a past) (has_out 1 o.b past && (has_out 2 o.c past && has_out 3 o.d past)) k in
    let y = and_parts (has_out 1 o.b past) (has_out 2 o.c past && has_out 3 o.d past) x.1 in
    let z = and_parts (has_out 2 o.c past) (has_out 3 o.d past) y.1 in
    at-one o (λ i. (b : ℕ) × (buffer_at (outs_for plan past) i ≡ Some b)) s (served-out past 0 o.a x.0) (served-out past 1 o.b y.0) (served-out past 2 o.c z.0) (served-out past 3 o.d z.1) h

pub taken-output : (plan : Plan) (n s : ℕ) (past : List ReEntry) → IsRun plan past → is_taken n past ≡ true → is_some (at_place plan.outputs s) ≡ true → (b : ℕ) × (output_of n s past ≡ Some b)
taken-output plan n s [] run h k = absurd (false≢true h)
taken-output plan n s (Take m j outs ∷ past) run h k =
    let taking = taking-of plan past m j outs run.0 in
    elim (cases_Bool (m.0 == n)) [
      | inl here ↦ (let served = served-buffer plan past s taking.served k in (served.0, rw here (ap (λ (x : Four ReOut). buffer_at x s) (sym taking.buffers) ∙ served.1)))
      | inr other ↦ (let h' = rw other at h in let ih = taken-output plan n s past run.1 h' k in (ih.0, rw other ih.1))
    ]
taken-output plan n s (_ ∷ past) run h k = taken-output plan n s past run.1 h k

-- a request with a fill shall not fail
pub filled-faultless : (plan : Plan) (n : ℕ) (past : List ReEntry) → IsRun plan past → has_fill n past ≡ true → is_faulty plan n ≡ false
filled-faultless plan n [] run h = absurd (false≢true h)
filled-faultless plan n (Fill m t c d ∷ past) run h =
    elim (cases_Bool (m.0 == n)) [
      | inl here ↦ (let given = filling-of plan past m t c d run.0 in let f = given.faultless in rw (eqb-true m.0 n here) at f)
      | inr other ↦ (let h' = rw other at h in filled-faultless plan n past run.1 h')
    ]
filled-faultless plan n (_ ∷ past) run h = filled-faultless plan n past run.1 h

-- ---- requests that are gone were called

still-called : (e : ReEntry) (past : List ReEntry) (n : ℕ) → n < request_count past → n < request_count (e ∷ past)
still-called e past n h = omega (arith, count-cons is_called e past, h)

pub gone-called : (plan : Plan) (n : ℕ) (past : List ReEntry) → IsRun plan past → is_gone n past ≡ true → n < request_count past
gone-called plan n [] run h = absurd (false≢true h)
gone-called plan n (Take m j outs ∷ past) run h =
    elim (or_cases (leaves n (Take m j outs)) (is_gone n past) h) [
      | inl here ↦ (
          let taking = taking-of plan past m j outs run.0 in
          let below = (queued-fresh past m.0 taking.queued).0 in
          elim (or_cases (m.0 == n) false here) [
            | inl same ↦ still-called (Take m j outs) past n (rw (eqb-true m.0 n same) at below)
            | inr wrong ↦ absurd (false≢true wrong)
          ]
          )
      | inr before ↦ still-called (Take m j outs) past n (gone-called plan n past run.1 before)
    ]
gone-called plan n (Dropped m ∷ past) run h =
    elim (cases_Bool (m.0 == n)) [
      | inl here ↦ (
          let dropping = dropping-of past m run.0 in
          let below = (queued-fresh past m.0 dropping.0).0 in
          still-called (Dropped m) past n (rw (eqb-true m.0 n here) at below)
          )
      | inr other ↦ (let h' = rw other at h in still-called (Dropped m) past n (gone-called plan n past run.1 h'))
    ]
gone-called plan n (e ∷ past) run h = still-called e past n (gone-called plan n past run.1 h)
