-- What is due of the least open frame.
use Rattle.std.proofs.Common.{◌≡◌, ℕ, ◌==◌, ◌+◌, Bool, true, false, ◌&&◌, ◌||◌, not, List, Option, Some, None, refl, sym, ◌∙◌, arith, inl, inr, is_some, nat_le}
use Rattle.std.proofs.lemmas.Bool.{and_from, both_ways, cases_Bool, false≢true, or_left, or_right, or_parts}
use Rattle.std.proofs.lemmas.Bool.Decides.{nat_tests}
use Rattle.cam_types.specs.declared.script.Script.{Script}
use Rattle.trace_model.specs.declared.entry.Entry.{Entry}
use Rattle.trace_model.specs.declared.entry.Sent.{Sent}
use Rattle.trace_model.specs.Errors.{may_fail_buffer, may_fail_device_at, may_fail_request, may_fail_result}
use Rattle.trace_model.specs.Faults.{buffer_fault, device_fault, request_fault, result_fault}
use Rattle.trace_model.specs.Filled.{is_sound, lets_pass}
use Rattle.trace_model.specs.Frames.{each_earlier, has_error, has_error_request, has_shutter, shutter_time}
use Rattle.trace_model.specs.Legal.{IsLegal}
use Rattle.trace_model.specs.Open.{has_error_buffer, has_error_result, has_something, is_metadata_ended, is_open}
use Rattle.trace_model.specs.Partial.{may_have_partial, partial_count, partial_due}
use Rattle.trace_model.specs.Place.{is_at_device_by}
use Rattle.trace_model.specs.Shutter.{is_next_for_sensor, may_expose}
use Rattle.trace_model.specs.Stopping.{is_stopped, is_stopping}
use Rattle.state_facts.specs.Row.{is_ended, row_of}
use Rattle.state_facts.proofs.Errors.{done-passes}
use Rattle.trace_laws.proofs.Times.{timed-shutter}
use Rattle.state_facts.proofs.OpenRows.{IsDone, row-ended}
use Rattle.trace_laws.proofs.Out.{not-returned-out}
use Rattle.state_facts.proofs.Caused.{caused, ended-something, error-something}
use Rattle.state_facts.proofs.Least.{IsAwaited, IsLeast, IsOwed, each-done, owed}
use Rattle.state_facts.proofs.Stopped.{stopping-stops}

-- what the next step of a frame may be, as the past alone tells: a failure of the device, an error, the shutter, a part, a
-- buffer that comes back in error, one that is to be filled and delivered, or one that came back early and is to be filled
pub record MayFill (script : Script) (past : List Entry) (n s : ℕ) (t : Sent) : Type 0 where
  pub owed : IsOwed past n s t
  pub still : is_open n past ≡ true
  pub shutter : has_shutter n past ≡ true
  pub sound : is_sound script past n s ≡ true
  pub out : is_at_device_by n s t.buffer.0 past ≡ true
  pub earlier : each_earlier n (lets_pass past s) past ≡ true

pub record MayReturn (past : List Entry) (n s : ℕ) (t : Sent) : Type 0 where
  pub owed : IsOwed past n s t
  pub out : is_at_device_by n s t.buffer.0 past ≡ true
  pub named : (has_error_request n past || has_error_buffer n s past) ≡ true

pub data NextOf (script : Script) (past : List Entry) (n : ℕ) : Type 0 where
  Device : (not (is_stopping past) && may_fail_device_at script past n) ≡ true → NextOf script past n
  Request : may_fail_request script past n ≡ true → NextOf script past n
  Result : may_fail_result script past n ≡ true → NextOf script past n
  Buffer : (s : ℕ) (t : Sent) → IsOwed past n s t → may_fail_buffer script past n s ≡ true → NextOf script past n
  Expose : may_expose script past n ≡ true → NextOf script past n
  PartialResult : is_some (partial_due script past n) ≡ true → NextOf script past n
  Return : (s : ℕ) (t : Sent) → MayReturn past n s t → NextOf script past n
  Fill : (s : ℕ) (t : Sent) → MayFill script past n s t → NextOf script past n
  Await : (s : ℕ) → IsAwaited past n s → NextOf script past n

-- ---- a done frame

done_began : (script : Script) (past : List Entry) (m : ℕ) → IsLegal script past → IsDone past m → (has_shutter m past || has_error_request m past) ≡ true
done_began script past m legal done = (caused script past m legal (ended-something m past done.ended)).began

module _ (script : Script) (past : List Entry) (n : ℕ) (legal : IsLegal script past) (least : IsLeast past n) where
  all_ended : each_earlier n (λ m. is_metadata_ended m past) past ≡ true
  all_ended = each-done past n (λ m. is_metadata_ended m past) least (λ m sent done. done.ended)

  all_began : each_earlier n (λ m. has_shutter m past || has_error_request m past) past ≡ true
  all_began = each-done past n (λ m. has_shutter m past || has_error_request m past) least (λ m sent done. done_began script past m legal done)

  all_pass : (s : ℕ) → each_earlier n (lets_pass past s) past ≡ true
  all_pass s = each-done past n (lets_pass past s) least (λ m sent done. done-passes past m s done)

  out_now : (s : ℕ) (t : Sent) → IsOwed past n s t → is_at_device_by n s t.buffer.0 past ≡ true
  out_now s t owes = not-returned-out script past n s t legal owes.at owes.out

  -- a frame that failed whole
  after_request : has_error_request n past ≡ true → NextOf script past n
  after_request error =
      elim (owed past n least.still (or_right _ _ (or_right _ _ error))) [
        | inl owes ↦ Return owes.0 owes.1.0 (record { owed = owes.1.1; out = out_now owes.0 owes.1.0 owes.1.1; named = or_left _ _ error })
        | inr waits ↦ Await waits.0 waits.1
      ]

  -- a frame without shutter
  nothing_yet : has_error_request n past ≡ false → has_shutter n past ≡ false → has_something n past ≡ false
  nothing_yet request shutter =
      elim (cases_Bool (has_something n past)) [
        | inl some ↦ (let began = (caused script past n legal some).began in let wrong : false ≡ true = rw (shutter, request) at began in absurd (false≢true wrong))
        | inr none ↦ none
      ]

  no_error : has_something n past ≡ false → has_error n past ≡ false
  no_error none =
      elim (cases_Bool (has_error n past)) [
        | inl some ↦ absurd (both_ways (has_something n past) none (error-something n past some))
        | inr other ↦ other
      ]

  goes_on : is_stopped n past ≡ false → is_stopping past ≡ false
  goes_on stopped =
      elim (cases_Bool (is_stopping past)) [
        | inl stopping ↦ absurd (both_ways (is_stopped n past) stopped (stopping-stops script past n legal least.sent stopping))
        | inr other ↦ other
      ]

  before_shutter : has_error_request n past ≡ false → has_shutter n past ≡ false → NextOf script past n
  before_shutter request shutter =
      let none = nothing_yet request shutter in
      elim (cases_Bool (is_stopped n past)) [
        | inl stopped ↦ Request (and_from _ _ (and_from _ _ least.still (rw none refl)) (or_right _ _ stopped))
        | inr other ↦ (
            let on = goes_on other in
            let next : is_next_for_sensor n past ≡ true = rw (least.sent, shutter, no_error none, all_began) refl in
            elim (cases_Bool (device_fault script n)) [
              | inl fault ↦ Device (rw (on, fault, next) refl)
              | inr sound ↦ Expose (rw (on, sound, next) refl)
            ]
            )
      ]

  -- metadata
  few_parts : is_metadata_ended n past ≡ false → (k : ℕ) → partial_count n past + 1 ≡ k → nat_le k 3 ≡ true
  few_parts open' k at =
      let row : is_ended (row_of script past n) ≡ false = row-ended script past n legal ∙ open' in
      let short : nat_le 3 (partial_count n past) ≡ false = (or_parts _ _ row).0 in
      by (partial_count n past) k short at
    where
      by : (c k : ℕ) → nat_le 3 c ≡ false → c + 1 ≡ k → nat_le k 3 ≡ true
      by c k short at = grind (arith, nat_tests, short, at)

  part_now : (o : Option ℕ) → is_some o ≡ true → shutter_time n past ≡ o → may_have_partial script past n (partial_count n past + 1) ≡ true → is_some (partial_due script past n) ≡ true
  part_now None some at may = absurd (false≢true some)
  part_now (Some time) some at may = rw (at, may) refl

  may_now : has_error_request n past ≡ false → has_error_result n past ≡ false → request_fault script n ≡ false → nat_le (partial_count n past + 1) 3 ≡ true → (not (result_fault script n) && each_earlier n (λ m. is_metadata_ended m past) past) ≡ true → may_have_partial script past n (partial_count n past + 1) ≡ true
  may_now request result sound few last = all (has_error_request n past) (has_error_result n past) (request_fault script n) (nat_le (partial_count n past + 1) 3) (not (partial_count n past + 1 == 3)) (not (result_fault script n) && each_earlier n (λ m. is_metadata_ended m past) past) request result sound few last
    where
      all : (a b f k l m : Bool) → a ≡ false → b ≡ false → f ≡ false → k ≡ true → m ≡ true → ((not a && (not b && not f)) && (k && (l || m))) ≡ true
      all a b f k l m h i j x y = rw (h, i, j, x) (or_right l m y)

  whole_parts : has_error_request n past ≡ false → has_shutter n past ≡ true → is_metadata_ended n past ≡ false → is_stopped n past ≡ false → request_fault script n ≡ false → NextOf script past n
  whole_parts request shutter open' stopped sound =
      elim (cases_Bool (result_fault script n)) [
        | inl fault ↦ Result (and_from _ _ (and_from _ _ (and_from _ _ shutter (rw sound refl)) (rw open' refl)) (and_from _ _ all_ended (or_left _ _ fault)))
        | inr none ↦ (
            let first = or_parts _ _ open' in
            let second = or_parts _ _ first.1 in
            let last : (not (result_fault script n) && each_earlier n (λ m. is_metadata_ended m past) past) ≡ true = rw (none, all_ended) refl in
            let may = may_now request second.0 sound (few_parts open' (partial_count n past + 1) refl) last in
            PartialResult (part_now (shutter_time n past) (sym (timed-shutter n past) ∙ shutter) refl may)
            )
      ]

  metadata : has_error_request n past ≡ false → has_shutter n past ≡ true → is_metadata_ended n past ≡ false → NextOf script past n
  metadata request shutter open' =
      elim (cases_Bool (is_stopped n past)) [
        | inl stopped ↦ elim (cases_Bool (has_something n past)) [
          | inl some ↦ Result (and_from _ _ (and_from _ _ (and_from _ _ shutter (or_right _ _ stopped)) (rw open' refl)) (and_from _ _ all_ended (or_right _ _ (and_from _ _ stopped some))))
          | inr none ↦ Request (and_from _ _ (and_from _ _ least.still (rw none refl)) (or_right _ _ stopped))
        ]
        | inr other ↦ elim (cases_Bool (request_fault script n)) [
          | inl fault ↦ elim (cases_Bool (has_something n past)) [
            | inl some ↦ (let cause = (caused script past n legal some).fault in let wrong : false ≡ true = rw (fault, request, other) at cause in absurd (false≢true wrong))
            | inr none ↦ Request (and_from _ _ (and_from _ _ least.still (rw none refl)) (or_left _ _ (and_from _ _ fault shutter)))
          ]
          | inr sound ↦ whole_parts request shutter open' other sound
        ]
      ]

  -- buffers
  buffers : has_error_request n past ≡ false → has_shutter n past ≡ true → is_metadata_ended n past ≡ true → (s : ℕ) (t : Sent) → IsOwed past n s t → NextOf script past n
  buffers request shutter ended s t owes =
      let some = ended-something n past ended in
      elim (cases_Bool (has_error_buffer n s past)) [
        | inl named ↦ Return s t (record { owed = owes; out = out_now s t owes; named = or_right _ _ named })
        | inr unnamed ↦ elim (cases_Bool (is_stopped n past)) [
          | inl stopped ↦ Buffer s t owes (and_from _ _ (and_from _ _ owes.has (and_from _ _ (and_from _ _ shutter (or_right _ _ stopped)) (rw request refl))) (and_from _ _ (rw (unnamed, owes.out) refl) (or_right _ _ (and_from _ _ stopped some))))
          | inr other ↦ elim (cases_Bool (request_fault script n)) [
            | inl fault ↦ (let cause = (caused script past n legal some).fault in let wrong : false ≡ true = rw (fault, request, other) at cause in absurd (false≢true wrong))
            | inr sound ↦ elim (cases_Bool (buffer_fault script n s)) [
              | inl fails ↦ Buffer s t owes (and_from _ _ (and_from _ _ owes.has (and_from _ _ (and_from _ _ shutter (rw sound refl)) (rw request refl))) (and_from _ _ (rw (unnamed, owes.out) refl) (or_left _ _ fails)))
              | inr good ↦ Fill s t (record { owed = owes; still = least.still; shutter = shutter; sound = rw (sound, good, request, unnamed) refl; out = out_now s t owes; earlier = all_pass s })
            ]
          ]
        ]
      ]

  pub next-of : NextOf script past n
  next-of =
      elim (cases_Bool (has_error_request n past)) [
        | inl error ↦ after_request error
        | inr request ↦ elim (cases_Bool (has_shutter n past)) [
          | inl shutter ↦ elim (cases_Bool (is_metadata_ended n past)) [
            | inl ended ↦ elim (owed past n least.still ended) [
              | inl owes ↦ buffers request shutter ended owes.0 owes.1.0 owes.1.1
              | inr waits ↦ Await waits.0 waits.1
            ]
            | inr open' ↦ metadata request shutter open'
          ]
          | inr none ↦ before_shutter request none
        ]
      ]
