-- The shutter and the device failure that are due, from the rows: the sensor takes the oldest row that has or_parts a shutter
-- nor a request error.
use Rattle.std.proofs.Common.{◌≡◌, ℕ, ◌==◌, Bool, true, false, ◌&&◌, ◌||◌, not, List, [], ◌∷◌, Option, Some, None, refl, sym, ◌∙◌, inl, inr, is_some, nat_lt, option_map, if◌then◌else◌}
use Rattle.std.specs.List.{list_any, list_all}
use Rattle.std.proofs.lemmas.Bool.{and_parts, both_ways, cases_Bool, cases_order, eqb-true, false≢true, or_parts}
use Rattle.cam_types.specs.declared.script.Script.{Script}
use Rattle.trace_model.specs.declared.entry.Entry.{Entry}
use Rattle.trace_model.specs.declared.entry.Entry.TheVariants.{Shutter, Partial, ErrorRequest, ErrorResult, ErrorBuffer}
use Rattle.trace_model.specs.Errors.{may_fail_device_at}
use Rattle.trace_model.specs.Faults.{device_fault}
use Rattle.trace_model.specs.Frames.{each_earlier, frames, has_error, has_error_request, has_shutter, is_sent}
use Rattle.trace_model.specs.Legal.{IsLegal}
use Rattle.trace_model.specs.Open.{has_error_result, has_part}
use Rattle.trace_model.specs.Shutter.{is_next_for_sensor, may_expose, next_time, shutter_at, shutter_due}
use Rattle.trace_model.specs.Stopping.{is_stopping}
use Rattle.trace_laws.proofs.Metadata.{result-fails}
use Rattle.trace_laws.proofs.Parts.{part-is}
use Rattle.trace_laws.proofs.Sends.{each-at}
use Rattle.trace_laws.proofs.Shutters.{exposed}
use Rattle.trace_laws.proofs.Printed.{one-of-all}
use Rattle.state_facts.specs.Row.{in_order, is_open_row, open_rows, row_of}
use Rattle.state_facts.specs.FrameReadings.{DeviceReads, ShutterReads, TimeReads, device_fails, is_unexposed, next_exposed, shutter_from}
use Rattle.state_facts.proofs.Last.{IsLast, find-none-all, find-one, first-kept, last-is, last-none, last_where}
use Rattle.state_facts.proofs.Order.{first-order, order-sent}
use Rattle.trace_laws.proofs.Times.{timed-shutter}
use Rattle.state_facts.proofs.OpenRows.{IsDone, closed-done, frame-among, row-found}
use Rattle.basic_lemmas.proofs.Lists.{all-where, any-found}
use Rattle.basic_lemmas.proofs.Tests.{passed-where}
use Rattle.trace_laws.proofs.Frames.{frames-fall}
use Rattle.trace_laws.proofs.Told.{buffer_exposed}

-- the frame waits for the sensor
abbrev pub waits : List Entry → ℕ → Bool
waits past n = not (has_shutter n past) && not (has_error_request n past)

other_frame : (m n : ℕ) (past : List Entry) → has_shutter n past ≡ false → has_shutter m past ≡ true → (m == n) ≡ false
other_frame m n past none had =
    elim (cases_Bool (m == n)) [
      | inl same ↦ (let had' = rw (eqb-true m n same) at had in absurd (both_ways (has_shutter n past) none had'))
      | inr other ↦ other
    ]

-- only a frame that has a shutter has another error than that of its request
error-unexposed : (script : Script) (past : List Entry) (n : ℕ) → IsLegal script past → has_shutter n past ≡ false → has_error n past ≡ has_error_request n past
error-unexposed script [] n legal h = refl
error-unexposed script (Shutter m time ∷ past) n legal h = error-unexposed script past n legal.1 (or_parts (m.0 == n) (has_shutter n past) h).1
error-unexposed script (ErrorRequest m ∷ past) n legal h = rw (error-unexposed script past n legal.1 h) refl
error-unexposed script (ErrorResult m ∷ past) n legal h = rw (other_frame m.0 n past h (result-fails script past m legal.0).shutter) (error-unexposed script past n legal.1 h)
error-unexposed script (ErrorBuffer m s ∷ past) n legal h = rw (other_frame m.0 n past h (buffer_exposed script past m.0 s.0 (passed-where _ _ _ legal.0))) (error-unexposed script past n legal.1 h)
error-unexposed script (e ∷ past) n legal h = error-unexposed script past n legal.1 h

pub part-unexposed : (script : Script) (past : List Entry) (n k : ℕ) → IsLegal script past → has_shutter n past ≡ false → has_part n k past ≡ false
part-unexposed script [] n k legal h = refl
part-unexposed script (Shutter m time ∷ past) n k legal h = part-unexposed script past n k legal.1 (or_parts (m.0 == n) (has_shutter n past) h).1
part-unexposed script (Partial m j part ∷ past) n k legal h = rw (other_frame m.0 n past h (part-is script past m j part legal.0).shutter) (part-unexposed script past n k legal.1 h)
part-unexposed script (e ∷ past) n k legal h = part-unexposed script past n k legal.1 h

pub result-unexposed : (script : Script) (past : List Entry) (n : ℕ) → IsLegal script past → has_shutter n past ≡ false → has_error_result n past ≡ false
result-unexposed script [] n legal h = refl
result-unexposed script (Shutter m time ∷ past) n legal h = result-unexposed script past n legal.1 (or_parts (m.0 == n) (has_shutter n past) h).1
result-unexposed script (ErrorResult m ∷ past) n legal h = rw (other_frame m.0 n past h (result-fails script past m legal.0).shutter) (result-unexposed script past n legal.1 h)
result-unexposed script (e ∷ past) n legal h = result-unexposed script past n legal.1 h

next_parts : (sent shutter error earlier : Bool) → ((sent && (not shutter && not error)) && earlier) ≡ true → (sent ≡ true) × (shutter ≡ false) × (error ≡ false) × (earlier ≡ true)
next_parts true false false true h = (refl, refl, refl, refl)
next_parts _ _ _ _ h = absurd (false≢true h)

abbrev pub passed : List Entry → ℕ → Bool
passed past m = has_shutter m past || has_error_request m past

passed_or_waits : (a b : Bool) → not (not a && not b) ≡ (a || b)
passed_or_waits true b = refl
passed_or_waits false true = refl
passed_or_waits false false = refl

-- what is next for the sensor waits for it, and all before it passed
pub record IsNext (past : List Entry) (n : ℕ) : Type 0 where
  pub sent : is_sent n past ≡ true
  pub waiting : passed past n ≡ false
  pub earlier : each_earlier n (passed past) past ≡ true

pub next-is : (script : Script) (past : List Entry) (n : ℕ) → IsLegal script past → is_next_for_sensor n past ≡ true → IsNext past n
next-is script past n legal h =
    let parts = next_parts (is_sent n past) (has_shutter n past) (has_error n past) (each_earlier n (passed past) past) h in
    let request : has_error_request n past ≡ false = sym (error-unexposed script past n legal parts.1) ∙ parts.2 in
    record { sent = parts.0; waiting = rw (parts.1, request) refl; earlier = parts.3 }

pub next-from : (script : Script) (past : List Entry) (n : ℕ) → IsLegal script past → IsNext past n → is_next_for_sensor n past ≡ true
next-from script past n legal next =
    let parts = or_parts (has_shutter n past) (has_error_request n past) next.waiting in
    rw (next.sent, parts.0, error-unexposed script past n legal parts.0, parts.1, next.earlier) refl

pub one-next : (past : List Entry) (m k : ℕ) → IsNext past m → IsNext past k → m ≡ k
one-next past m k a b =
    elim (cases_order m k) [
      | inl same ↦ same
      | inr order ↦ elim order [
        | inl less ↦ absurd (both_ways (passed past m) a.waiting (each-at k m (passed past) past b.earlier a.sent less))
        | inr more ↦ absurd (both_ways (passed past k) b.waiting (each-at m k (passed past) past a.earlier b.sent more))
      ]
    ]

pub last-next : (script : Script) (past : List Entry) (k : ℕ) → IsLast (waits past) (frames past) k → IsNext past k
last-next script past k last = record {
  sent = rw (← frame-among k past) last.among;
  waiting = waiting (has_shutter k past) (has_error_request k past) last.passes;
  earlier = all-where (λ m. not (nat_lt m k) || not (waits past m)) (λ m. not (nat_lt m k) || passed past m) (frames past) (λ m h. rw (← passed_or_waits (has_shutter m past) (has_error_request m past)) h) last.below;
}
  where
    waiting : (a b : Bool) → (not a && not b) ≡ true → (a || b) ≡ false
    waiting false false h = refl
    waiting _ _ h = absurd (false≢true h)

-- the row that the sensor takes next is that of the frame that is next
pub done_passed : (script : Script) (past : List Entry) (n : ℕ) → IsLegal script past → IsDone past n → waits past n ≡ false
done_passed script past n legal done =
    elim (cases_Bool (has_shutter n past)) [
      | inl had ↦ rw had refl
      | inr none ↦ (
          let request : has_error_request n past ≡ true = rw (part-unexposed script past n 3 legal none, result-unexposed script past n legal none) at done.ended in
          rw (none, request) refl
          )
    ]

pub rows-next : (script : Script) (past : List Entry) → IsLegal script past → next_exposed (open_rows script past) ≡ option_map (row_of script past) (last_where (waits past) (frames past))
rows-next script past legal =
    rw (← first-order (waits past) past) (first-kept (λ n. is_sent n past) (waits past) is_open_row is_unexposed (row_of script past) (in_order past)
    (λ n sent closed. done_passed script past n legal (closed-done script past n legal sent closed)) (λ n sent. rw (timed-shutter n past) refl) (order-sent past))

pub no_next : (script : Script) (past : List Entry) → IsLegal script past → last_where (waits past) (frames past) ≡ None → (m : ℕ) → is_next_for_sensor m past ≡ true → ⊥
no_next script past legal none m next =
    let is = next-is script past m legal next in
    let parts = or_parts (has_shutter m past) (has_error_request m past) is.waiting in
    let waiting : waits past m ≡ true = rw (parts.0, parts.1) refl in
    let among : list_any (λ x. x == m) (frames past) ≡ true = rw (frame-among m past) is.sent in
    one-of-all ⊥ (λ x. not (waits past x)) (λ x. x == m) (frames past) (λ x not' at. let not'' : not (waits past m) ≡ true = rw (eqb-true x m at) at not' in let wrong : false ≡ true = rw waiting at not'' in absurd (false≢true wrong)) (last-none (waits past) (frames past) none) among

-- ---- the shutter

may_parts : (script : Script) (past : List Entry) (n : ℕ) → may_expose script past n ≡ true → is_next_for_sensor n past ≡ true
may_parts script past n h =
    let first = and_parts (not (is_stopping past)) (is_next_for_sensor n past && not (device_fault script n)) h in
    (and_parts (is_next_for_sensor n past) (not (device_fault script n)) first.1).0

none_may : (p : ℕ → Bool) (xs : List ℕ) → ((x : ℕ) → p x ≡ true → ⊥) → list_all (λ x. not (p x)) xs ≡ true
none_may p [] no' = refl
none_may p (x ∷ xs) no' = elim (cases_Bool (p x)) [ inl here ↦ absurd (no' x here) | inr other ↦ rw (other, none_may p xs no') refl ]

shutter_step : (script : Script) (past : List Entry) (o : Option ℕ) → IsLegal script past → last_where (waits past) (frames past) ≡ o → shutter_due script past ≡ shutter_from script (is_stopping past) (next_time script past) (option_map (row_of script past) o)
shutter_step script past None legal at =
    let none = find-none-all (may_expose script past) (frames past) (none_may (may_expose script past) (frames past) (λ m may. no_next script past legal at m (may_parts script past m may))) in
    rw none refl
shutter_step script past (Some k) legal at =
    let last = last-is (waits past) (frames past) k (frames-fall script past legal) at in
    let next = last-next script past k last in
    let found = find-one (may_expose script past) k (frames past) (λ m may. one-next past m k (next-is script past m legal (may_parts script past m may)) next) last.among in
    rw (found, next-from script past k legal next) (given (not (is_stopping past)) (not (device_fault script k)) k)
  where
    given : (a b : Bool) (k : ℕ) → shutter_at script past (if a && (true && b) then Some k else None) ≡ (if a && b then Some (Shutter (record { 0 = k }) (next_time script past)) else None)
    given true true k = refl
    given true false k = refl
    given false b k = refl

pub shutter_reads : (script : Script) (past : List Entry) → ShutterReads script past
shutter_reads script past legal = rw (rows-next script past legal) (shutter_step script past (last_where (waits past) (frames past)) legal refl)

-- ---- the device failure

device_step : (script : Script) (past : List Entry) (o : Option ℕ) → IsLegal script past → last_where (waits past) (frames past) ≡ o → (not (is_stopping past) && list_any (may_fail_device_at script past) (frames past)) ≡ device_fails script (is_stopping past) (option_map (row_of script past) o)
device_step script past None legal at =
    let none = find-none-all (may_fail_device_at script past) (frames past) (none_may (may_fail_device_at script past) (frames past) (λ m may. no_next script past legal at m (and_parts (device_fault script m) (is_next_for_sensor m past) may).1)) in
    rw (any-found (may_fail_device_at script past) (frames past), none) (never (not (is_stopping past)))
  where
    never : (a : Bool) → (a && false) ≡ false
    never true = refl
    never false = refl
device_step script past (Some k) legal at =
    let last = last-is (waits past) (frames past) k (frames-fall script past legal) at in
    let next = last-next script past k last in
    let found = find-one (may_fail_device_at script past) k (frames past) (λ m may. one-next past m k (next-is script past m legal (and_parts (device_fault script m) (is_next_for_sensor m past) may).1) next) last.among in
    rw (any-found (may_fail_device_at script past) (frames past), found, next-from script past k legal next) (given (not (is_stopping past)) (device_fault script k) k)
  where
    given : (a b : Bool) (k : ℕ) → (a && is_some (if b && true then Some k else None)) ≡ (a && b)
    given true true k = refl
    given true false k = refl
    given false b k = refl

pub device_reads : (script : Script) (past : List Entry) → DeviceReads script past
device_reads script past legal = rw (rows-next script past legal, ← device_step script past (last_where (waits past) (frames past)) legal refl) refl

-- ---- the time of the next shutter

-- a frame that waits for the sensor has a row
pub waiting-open : (script : Script) (past : List Entry) (n : ℕ) → IsLegal script past → is_sent n past ≡ true → passed past n ≡ false → is_open_row (row_of script past n) ≡ true
waiting-open script past n legal sent waiting =
    elim (cases_Bool (is_open_row (row_of script past n))) [
      | inl here ↦ here
      | inr closed ↦ (
          let over = done_passed script past n legal (closed-done script past n legal sent closed) in
          let parts = or_parts (has_shutter n past) (has_error_request n past) waiting in
          let wrong : true ≡ false = rw (parts.0, parts.1) at over in
          absurd (false≢true (sym wrong))
          )
    ]

pub time_reads : (script : Script) (past : List Entry) (e : Entry) → TimeReads script past e
time_reads script past (Shutter n time) legal =
    let is = exposed script past n time legal.0 in
    let row = row-found script past n.0 in
    let request : has_error_request n.0 past ≡ false = sym (error-unexposed script past n.0 legal.1 is.1) ∙ is.2 in
    let here = waiting-open script past n.0 legal.1 is.0 (rw (is.1, request) refl) in
    rw (row, is.0, here) refl
time_reads script past e legal = refl
