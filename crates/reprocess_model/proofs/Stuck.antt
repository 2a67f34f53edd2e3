-- A run that isn't complete has a step that is ready.
use Rattle.std.proofs.Common.{◌≡◌, ℕ, zero, suc, ◌==◌, ◌+◌, ◌*◌, ◌<◌, ◌≤◌, Bool, true, false, ◌&&◌, ◌||◌, not, List, [], ◌∷◌, ◌++◌, Option, Some, None, inl, inr, refl, sym, ◌∙◌, arith, length, map, nat_le, is_some}
use Rattle.std.specs.List.{flat_map, list_all, list_any, range_with_len}
use Rattle.std.proofs.lemmas.Bool.{and_parts, and_from, cases_Bool, cases_eq, eqb-false, not-true, or_cases, or_parts, or_left, or_right, false≢true}
use Rattle.std.proofs.lemmas.Option.{slice_get_cases}
use Rattle.basic_lemmas.proofs.Lists.{any-mapped, any-first, any-back}
use Rattle.cam_types.specs.declared.number.FrameNo.{FrameNo}
use Rattle.cam_types.specs.declared.number.StreamIx.{StreamIx}
use Rattle.cam_types.specs.declared.stream.StreamSpec.{StreamSpec}
use Rattle.reprocess_model.specs.declared.entry.ReEntry.{ReEntry}
use Rattle.reprocess_model.specs.declared.plan.Plan.{Plan}
use Rattle.reprocess_model.specs.declared.plan.ReCommand.{ReCommand}
use Rattle.reprocess_model.specs.declared.plan.ReCommand.TheVariants.{Request, Flush}
use Rattle.reprocess_model.specs.declared.step.ReStepName.{ReStepName}
use Rattle.reprocess_model.specs.declared.step.ReStepName.TheVariants.{TakeNext, Client, DropNext, Fail, ReturnFailed, ReturnFilled, ReturnInput}
use Rattle.reprocess_model.specs.Due.{all_returned, has_out, may_fail, is_faulty, is_next_for, line_of_command}
use Rattle.reprocess_model.specs.Past.{call_count, request_count, is_taken, is_stopping, is_stopped, has_error, has_fill, is_returned, has_input, input_of, output_of, input_holder, output_holder, least_queued, least_output, is_input_home, is_output_home, all_inputs_home}
use Rattle.reprocess_model.specs.Places.{at_place}
use Rattle.reprocess_model.specs.Plan.{are_outputs, are_outputs_at, command_fits, is_plan, is_yuv, requests}
use Rattle.reprocess_model.specs.Run.{IsRun, is_complete, is_ready, steps, for_requests, for_outputs}
use Rattle.reprocess_model.proofs.Found.{all_below-fails, all_below-at, all_below-from, first-found, found-passes, least-passes, some-found, some-or-none}
use Rattle.reprocess_model.proofs.Facts.{some-is_by}
use Rattle.reprocess_model.proofs.Held.{input-held, input-holds, input_of-taken, output-holds, taken-gone, taken-input}
use Rattle.reprocess_model.proofs.Back.{all-outputs-home, each-at, each-fails, filled-faultless, gone-called, input-returned, outputs-home, taken-output}
use Rattle.reprocess_model.proofs.Calls.{calls-within, requests-within}

-- ---- where a step stands among all steps

any-row : (p : ℕ → Bool) (a n b : ℕ) → a ≤ b → b < a + n → p b ≡ true → list_any p (range_with_len a n) ≡ true
any-row p a zero b low high h = absurd (omega arith)
any-row p a (suc n) b low high h =
    elim (cases_eq a b) [
      | inl same ↦ rw same (or_left (p b) _ h)
      | inr other ↦ or_right (p a) (list_any p (range_with_len (a + 1) n)) (any-row p (a + 1) n b (omega (arith, low, other)) (omega (arith, high)) h)
    ]

any-flat : {X Y : Type 0} (p : Y → Bool) (f : X → List Y) (xs : List X) → list_any (λ x. list_any p (f x)) xs ≡ true → list_any p (flat_map f xs) ≡ true
any-flat p f [] h = absurd (false≢true h)
any-flat p f (x ∷ xs) h =
    elim (or_cases (list_any p (f x)) (list_any (λ y. list_any p (f y)) xs) h) [
      | inl here ↦ any-first p (f x) (flat_map f xs) here
      | inr later ↦ any-back p (f x) (flat_map f xs) (any-flat p f xs later)
    ]

request-step : (p : ReStepName → Bool) (step : FrameNo → ReStepName) (count n : ℕ) → n < count → p (step (record { 0 = n })) ≡ true → list_any p (for_requests step count) ≡ true
request-step p step count n less h =
    any-mapped p (λ k. step (record { 0 = k })) (range_with_len 0 count)
    ∙ any-row (λ k. p (step (record { 0 = k }))) 0 count n (omega arith) (omega (arith, less)) h

output-step : (p : ReStepName → Bool) (step : FrameNo → StreamIx → ReStepName) (count n s : ℕ) → n < count → s < 3 → p (step (record { 0 = n }) (record { 0 = s })) ≡ true → list_any p (for_outputs step count) ≡ true
output-step p step count n s less low h =
    any-flat p (λ k. map (λ t. step (record { 0 = k }) (record { 0 = t })) (range_with_len 0 3)) (range_with_len 0 count)
    (any-row (λ k. list_any p (map (λ t. step (record { 0 = k }) (record { 0 = t })) (range_with_len 0 3))) 0 count n (omega arith) (omega (arith, less))
    (any-mapped p (λ t. step (record { 0 = n }) (record { 0 = t })) (range_with_len 0 3)
    ∙ any-row (λ t. p (step (record { 0 = n }) (record { 0 = t }))) 0 3 s (omega arith) (omega (arith, low)) h))

module _ (plan : Plan) (past : List ReEntry) where
  -- some step is ready
  abbrev pub IsAwake : Type 0
  IsAwake = list_any (is_ready plan past) (steps (length (requests plan.commands))) ≡ true

  take-awake : is_ready plan past TakeNext ≡ true → IsAwake
  take-awake h = or_left (is_ready plan past TakeNext) _ h

  client-awake : is_ready plan past Client ≡ true → IsAwake
  client-awake h = or_right (is_ready plan past TakeNext) _ (or_left (is_ready plan past Client) _ h)

  drop-awake : is_ready plan past DropNext ≡ true → IsAwake
  drop-awake h = or_right (is_ready plan past TakeNext) _ (or_right (is_ready plan past Client) _ (or_left (is_ready plan past DropNext) _ h))

  later : list_any (is_ready plan past) (for_requests Fail (length (requests plan.commands)) ++ (for_outputs ReturnFailed (length (requests plan.commands)) ++ (for_outputs ReturnFilled (length (requests plan.commands)) ++ for_requests ReturnInput (length (requests plan.commands))))) ≡ true → IsAwake
  later h = or_right (is_ready plan past TakeNext) _ (or_right (is_ready plan past Client) _ (or_right (is_ready plan past DropNext) _ h))

  fail-awake : (n : ℕ) → n < length (requests plan.commands) → is_ready plan past (Fail (record { 0 = n })) ≡ true → IsAwake
  fail-awake n less h =
      later
      (any-first (is_ready plan past) (for_requests Fail (length (requests plan.commands))) _
      (request-step (is_ready plan past) Fail (length (requests plan.commands)) n less h))

  failed-awake : (n s : ℕ) → n < length (requests plan.commands) → s < 3 → is_ready plan past (ReturnFailed (record { 0 = n }) (record { 0 = s })) ≡ true → IsAwake
  failed-awake n s less low h =
      later
      (any-back (is_ready plan past) (for_requests Fail (length (requests plan.commands))) _
      (any-first (is_ready plan past) (for_outputs ReturnFailed (length (requests plan.commands))) _
      (output-step (is_ready plan past) ReturnFailed (length (requests plan.commands)) n s less low h)))

  filled-awake : (n s : ℕ) → n < length (requests plan.commands) → s < 3 → is_ready plan past (ReturnFilled (record { 0 = n }) (record { 0 = s })) ≡ true → IsAwake
  filled-awake n s less low h =
      later
      (any-back (is_ready plan past) (for_requests Fail (length (requests plan.commands))) _
      (any-back (is_ready plan past) (for_outputs ReturnFailed (length (requests plan.commands))) _
      (any-first (is_ready plan past) (for_outputs ReturnFilled (length (requests plan.commands))) _
      (output-step (is_ready plan past) ReturnFilled (length (requests plan.commands)) n s less low h))))

  input-awake : (n : ℕ) → n < length (requests plan.commands) → is_ready plan past (ReturnInput (record { 0 = n })) ≡ true → IsAwake
  input-awake n less h =
      later
      (any-back (is_ready plan past) (for_requests Fail (length (requests plan.commands))) _
      (any-back (is_ready plan past) (for_outputs ReturnFailed (length (requests plan.commands))) _
      (any-back (is_ready plan past) (for_outputs ReturnFilled (length (requests plan.commands))) _
      (request-step (is_ready plan past) ReturnInput (length (requests plan.commands)) n less h))))

-- ---- a plan has three outputs at most

outs-three : (input : StreamSpec) (a b c d : Option StreamSpec) → are_outputs_at input a b c d ≡ true → d ≡ None
outs-three input a b c None h = refl
outs-three input None b c (Some d) h = absurd (false≢true h)
outs-three input (Some a) None None (Some d) h = absurd (false≢true h)
outs-three input (Some a) None (Some c) (Some d) h = absurd (false≢true h)
outs-three input (Some a) (Some b) None (Some d) h = absurd (false≢true h)
outs-three input (Some a) (Some b) (Some c) (Some d) h = absurd (false≢true h)

-- what an accepted plan has
pub record IsAccepted (plan : Plan) : Type 0 where
  pub outputs : are_outputs plan.input plan.outputs ≡ true
  pub few_commands : nat_le (length plan.commands) 64 ≡ true

pub accepted-parts : (plan : Plan) → is_plan plan ≡ true → IsAccepted plan
accepted-parts plan h =
    let yuv = is_yuv plan.input in
    let outs = are_outputs plan.input plan.outputs in
    let faults = nat_le (length plan.faults) 64 in
    let picks = nat_le (length plan.picks) 1024 in
    let commands = nat_le (length plan.commands) 64 in
    let e = and_parts ((((yuv && outs) && faults) && picks) && commands) (list_all command_fits plan.commands) h in
    let d = and_parts (((yuv && outs) && faults) && picks) commands e.0 in
    let c = and_parts ((yuv && outs) && faults) picks d.0 in
    let b = and_parts (yuv && outs) faults c.0 in
    record { outputs = (and_parts yuv outs b.0).1; few_commands = d.1 }

pub output-low : (plan : Plan) (s : ℕ) → is_plan plan ≡ true → s < 4 → is_some (at_place plan.outputs s) ≡ true → s < 3
output-low plan s valid low h =
    elim (cases_eq s 3) [
      | inl three ↦ absurd (
          let none = outs-three plan.input plan.outputs.a plan.outputs.b plan.outputs.c plan.outputs.d (accepted-parts plan valid).outputs in
          let h' = rw (three, none) at h in
          false≢true h'
          )
      | inr other ↦ omega arith
    ]

-- ---- a request at the device has a step

ready-failed : (plan : Plan) (past : List ReEntry) (n s b : ℕ) → output_of n s past ≡ Some b → has_error n past ≡ true → output_holder b past ≡ Some n → is_ready plan past (ReturnFailed (record { 0 = n }) (record { 0 = s })) ≡ true
ready-failed plan past n s b out err held = rw (out, err, some-is_by n (output_holder b past) held) refl

ready-filled : (plan : Plan) (past : List ReEntry) (n s b : ℕ) → output_of n s past ≡ Some b → output_holder b past ≡ Some n → has_error n past ≡ false → is_faulty plan n ≡ false → is_next_for past n s ≡ true → is_ready plan past (ReturnFilled (record { 0 = n }) (record { 0 = s })) ≡ true
ready-filled plan past n s b out held sound faultless next = rw (out, some-is_by n (output_holder b past) held, sound, faultless, next) refl

ready-input : (plan : Plan) (past : List ReEntry) (n i : ℕ) → input_of n past ≡ Some i → input_holder i past ≡ Some n → all_returned plan past n ≡ true → is_ready plan past (ReturnInput (record { 0 = n })) ≡ true
ready-input plan past n i out held all = rw (out, some-is_by n (input_holder i past) held, all) refl

-- what a request that can't fail hasn't
faultless-where : (taken err fill input faulty stopped : Bool) → (taken && (not err && (not fill && (not input && (faulty || stopped))))) ≡ false → taken ≡ true → err ≡ false → fill ≡ false → input ≡ false → faulty ≡ false
faultless-where true false false false faulty stopped h a b c d = (or_parts faulty stopped h).0
faultless-where false err fill input faulty stopped h a b c d = absurd (false≢true a)
faultless-where true true fill input faulty stopped h a b c d = absurd (false≢true (sym b))
faultless-where true false true input faulty stopped h a b c d = absurd (false≢true (sym c))
faultless-where true false false true faulty stopped h a b c d = absurd (false≢true (sym d))

is-faultless : (plan : Plan) (past : List ReEntry) (n : ℕ) → IsRun plan past → may_fail plan past n ≡ false → is_taken n past ≡ true → has_error n past ≡ false → has_input n past ≡ false → is_faulty plan n ≡ false
is-faultless plan past n run may taken sound out =
    elim (cases_Bool (has_fill n past)) [
      | inl filled ↦ filled-faultless plan n past run filled
      | inr unfilled ↦ faultless-where (is_taken n past) (has_error n past) (has_fill n past) (has_input n past) (is_faulty plan n) (is_stopped n past) may taken sound unfilled out
    ]

-- the least request whose input isn't back
open-awake : (plan : Plan) (past : List ReEntry) (n : ℕ) → is_plan plan ≡ true → IsRun plan past → is_taken n past ≡ true → has_input n past ≡ false → ((m : ℕ) → m < n → is_taken m past ≡ true → has_input m past ≡ true) → IsAwake plan past
open-awake plan past n valid run taken out less =
    let input = taken-input plan n past run taken in
    let holds = input-holds plan input.0 n past run input.1 out in
    let called = gone-called plan n past run (taken-gone n past taken) in
    let within = requests-within plan past run in
    let below : n < length (requests plan.commands) = omega (arith, called, within) in
    elim (cases_Bool (all_returned plan past n)) [
      | inl all ↦ input-awake plan past n below (ready-input plan past n input.0 input.1 holds all)
      | inr some ↦ (
          let at = each-fails plan.outputs (λ s. is_returned n s past) some in
          let s = at.0 in
          let low = output-low plan s valid at.1 at.2 in
          let buffer = taken-output plan n s past run taken at.2 in
          let held = output-holds plan n s buffer.0 past run buffer.1 at.3 in
          elim (cases_Bool (has_error n past)) [
            | inl err ↦ failed-awake plan past n s below low (ready-failed plan past n s buffer.0 buffer.1 err held)
            | inr sound ↦ elim (cases_Bool (may_fail plan past n)) [
              | inl may ↦ fail-awake plan past n below (rw may refl)
              | inr no' ↦ (
                  let faultless = is-faultless plan past n run no' taken sound out in
                  let next : is_next_for past n s ≡ true = all_below-from n (λ m. not (is_taken m past) || (is_returned m s past || has_error m past))
                  (λ m l. elim (cases_Bool (is_taken m past)) [
                    | inl t ↦ rw t (or_left (is_returned m s past) (has_error m past) (each-at plan.outputs (λ r. is_returned m r past) s (input-returned plan m past run (less m l t)) at.2))
                    | inr f ↦ rw f refl
                  ]) in
                  filled-awake plan past n s below low (ready-filled plan past n s buffer.0 buffer.1 held sound faultless next)
                  )
            ]
          ]
          )
    ]

-- it waits at the device
is_open : List ReEntry → ℕ → Bool
is_open past n = is_taken n past && not (has_input n past)

busy-awake : (plan : Plan) (past : List ReEntry) → is_plan plan ≡ true → IsRun plan past → all_inputs_home past ≡ false → IsAwake plan past
unfolding is_open
busy-awake plan past valid run h =
    let away = all_below-fails 3 (is_input_home past) h in
    elim (some-or-none (input_holder away.0 past)) [
      | inl none ↦ absurd (let at = away.2 in let at' = rw none at at in false≢true (sym at'))
      | inr some ↦ (
          let held = input-held plan away.0 some.0 past run some.1 in
          let taken = input_of-taken some.0 past away.0 held.0 in
          let called = gone-called plan some.0 past run (taken-gone some.0 past taken) in
          let first = some-found (request_count past) (is_open past) some.0 called (and_from (is_taken some.0 past) (not (has_input some.0 past)) taken (rw held.1 refl)) in
          let found = found-passes (request_count past) (is_open past) first.0 first.1 in
          let parts = and_parts (is_taken first.0 past) (not (has_input first.0 past)) found.1 in
          open-awake plan past first.0 valid run parts.0 (not-true (has_input first.0 past) parts.1)
          (λ m l t. elim (cases_Bool (has_input m past)) [
            | inl back ↦ back
            | inr out ↦ absurd (
                let fails = least-passes (request_count past) (is_open past) first.0 m first.1 l in
                let fails' = rw (t, out) at fails in
                false≢true (sym fails')
                )
          ])
          )
    ]

-- ---- where nothing is at the device

has-out-home : (plan : Plan) (past : List ReEntry) (s : ℕ) (spec : Option StreamSpec) → IsRun plan past → all_inputs_home past ≡ true → has_out s spec past ≡ true
has-out-home plan past s None run home = refl
has-out-home plan past s (Some spec) run home =
    let free : is_output_home past (4 * s) ≡ true = rw (outputs-home plan (4 * s) past run home) refl in
    let found : least_output s past ≡ Some (4 * s) = first-found (is_output_home past) (4 * s) 3 free in
    rw found refl

command-ready : (past : List ReEntry) (x : ReCommand) → least_queued past ≡ None → all_inputs_home past ≡ true → is_some (line_of_command past (Some x)) ≡ true
command-ready past (Request s) none home = refl
command-ready past Flush none home =
    elim (cases_Bool (is_stopping past)) [ inl on ↦ rw (on, none, home) refl | inr off ↦ rw off refl ]

idle-awake : (plan : Plan) (past : List ReEntry) → IsRun plan past → all_inputs_home past ≡ true → is_complete plan past ≡ false → IsAwake plan past
idle-awake plan past run home unfinished =
    elim (some-or-none (least_queued past)) [
      | inr queued ↦ elim (cases_Bool (is_stopping past)) [
        | inl on ↦ drop-awake plan past (rw (queued.1, on) refl)
        | inr off ↦ (
            let first = some-found 3 (is_input_home past) 0 (omega arith) (all_below-at 3 (is_input_home past) 0 home (omega arith)) in
            let a = has-out-home plan past 0 plan.outputs.a run home in
            let b = has-out-home plan past 1 plan.outputs.b run home in
            let c = has-out-home plan past 2 plan.outputs.c run home in
            let d = has-out-home plan past 3 plan.outputs.d run home in
            take-awake plan past (rw (queued.1, first.1, off, a, b, c, d) refl)
            )
      ]
      | inl none ↦ (
          let outs = all-outputs-home plan past run home in
          let within = calls-within plan past run in
          let unfinished' = rw (none, home, outs) at unfinished in
          elim (cases_Bool (call_count past == length plan.commands)) [
            | inl all ↦ absurd (let wrong = rw all at unfinished' in false≢true (sym wrong))
            | inr more ↦ (
                let other : call_count past ≡ length plan.commands → ⊥ = eqb-false (call_count past) (length plan.commands) more in
                let less : call_count past < length plan.commands = omega (arith, within, other) in
                elim (slice_get_cases plan.commands (call_count past)).1 [
                  | inl there ↦ client-awake plan past (rw there.2 (command-ready past there.0 none home))
                  | inr past-end ↦ absurd (omega (arith, past-end.0, less))
                ]
                )
          ]
          )
    ]

-- a run that isn't complete has a step that is ready
pub never-stuck : (plan : Plan) (past : List ReEntry) → is_plan plan ≡ true → IsRun plan past → is_complete plan past ≡ false → list_any (is_ready plan past) (steps (length (requests plan.commands))) ≡ true
never-stuck plan past valid run unfinished =
    elim (cases_Bool (all_inputs_home past)) [
      | inl home ↦ idle-awake plan past run home unfinished
      | inr away ↦ busy-awake plan past valid run away
    ]
