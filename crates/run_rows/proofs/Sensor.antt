-- The shutter that is due, and the device's failure, are read from the rows: the sensor takes the oldest row that has neither a
-- shutter nor a request error.
use Rattle.std.proofs.Common.{◌≡◌, ℕ, ◌==◌, Bool, true, false, ◌&&◌, ◌||◌, not, List, [], ◌∷◌, Option, Some, None, refl, sym, ap, ◌∙◌, inl, inr, filter, find, is_some, map, reverse, if◌then◌else◌}
use Rattle.std.specs.List.{list_all}
use Rattle.std.specs.Option.{option_map, option_or}
use Rattle.std.proofs.lemmas.Bool.{and_parts, cases_Bool, eq-eqb, eqb-true, false≢true}
use Rattle.std.proofs.lemmas.List.{reverse-append}
use Rattle.std.proofs.lemmas.List.Folds.{find-append}
use Rattle.run_rows.proofs.General.{map-if}
use Rattle.cam_types.specs.declared.row.RowView.{RowView}
use Rattle.cam_types.specs.declared.script.Script.{Script}
use Rattle.trace_model.specs.declared.entry.Entry.TheVariants.{Shutter, ErrorDevice}
use Rattle.trace_model.specs.Faults.{device_fault}
use Rattle.trace_model.specs.Frames.{frames, has_error_request, has_shutter, is_sent}
use Rattle.trace_model.specs.Legal.{IsLegal}
use Rattle.trace_model.specs.Open.{is_open}
use Rattle.trace_model.specs.Shutter.{is_next_for_sensor, next_time, shutter_due}
use Rattle.trace_model.specs.Stopping.{is_stopped, is_stopping}
use Rattle.run_model.specs.declared.step.Move.{Move}
use Rattle.run_model.specs.History.{trace_of}
use Rattle.run_model.specs.Ready.{failure_at}
use Rattle.run_model.specs.Rows.{row_of, rows}
use Rattle.run_model.specs.Run.{IsRun}
use Rattle.device_rows.specs.Ready.{fails_device_at, if_exposed, is_failing, next_exposure, shutter_row}
use Rattle.run_model.proofs.Legal.{runs_legally}
use Rattle.state_facts.specs.FrameReadings.{shutter_from}
use Rattle.state_facts.specs.Row as plain
use Rattle.state_facts.proofs.Last.{last-is, last_where}
use Rattle.state_facts.proofs.Sensor.{IsNext, done_passed, last-next, next-from, next-is, no_next, one-next, rows-next, shutter_reads, waits}
use Rattle.trace_laws.proofs.Frames.{frames-fall}
use Rattle.trace_laws.proofs.Done.{closed-is}
use Rattle.trace_laws.proofs.Times.{timed-shutter}
use Rattle.run_rows.specs.Entries.{shutter_entry}
use Rattle.run_rows.proofs.Frames.{sent-in-order}
use Rattle.run_rows.proofs.Stopped.{open-stopped}

-- ---- the row that the sensor takes next

find-reverse : (p : ℕ → Bool) (xs : List ℕ) → find p (reverse xs) ≡ last_where p xs
find-reverse p [] = refl
find-reverse p (x ∷ xs) =
    ap (λ (ys : List ℕ). find p ys) (reverse-append (x ∷ []) xs)
    ∙ (find-append p (reverse xs) (x ∷ []) ∙ ap (λ (o : Option ℕ). option_or o (if p x then Some x else None)) (find-reverse p xs))

find-rows : (f : ℕ → RowView) (p ok t : ℕ → Bool) (q : RowView → Bool) (xs : List ℕ) → ((x : ℕ) → ok x ≡ true → p x ≡ false → t x ≡ false) → ((x : ℕ) → t x ≡ q (f x)) → list_all ok xs ≡ true → find q (map f (filter p xs)) ≡ option_map f (find t xs)
find-rows f p ok t q [] closed same all = refl
find-rows f p ok t q (x ∷ xs) closed same all =
    let parts = and_parts (ok x) (list_all ok xs) all in
    let ih = find-rows f p ok t q xs closed same parts.1 in
    elim (cases_Bool (p x)) [
      | inl open_ ↦ elim (cases_Bool (t x)) [
        | inl yes' ↦ (let yes'' : q (f x) ≡ true = sym (same x) ∙ yes' in rw (open_, yes', yes'') refl)
        | inr no' ↦ (let no'' : q (f x) ≡ false = sym (same x) ∙ no' in rw (open_, no', no'') ih)
      ]
      | inr shut ↦ rw (shut, closed x parts.0 shut) ih
    ]

closed-waits : (script : Script) (h : List Move) (n : ℕ) → IsLegal script (trace_of h) → is_sent n (trace_of h) ≡ true → is_open n (trace_of h) ≡ false → waits (trace_of h) n ≡ false
closed-waits script h n legal sent closed =
    let done = closed-is (trace_of h) n sent closed in
    done_passed script (trace_of h) n legal (record { ended = done.0; back = done.1 })

next-row : (script : Script) (h : List Move) → IsLegal script (trace_of h) → next_exposure (rows script h) ≡ option_map (row_of script h) (last_where (waits (trace_of h)) (frames (trace_of h)))
next-row script h legal =
    let past = trace_of h in
    find-rows (row_of script h) (λ n. is_open n past) (λ n. is_sent n past) (waits past) (λ row. not (is_some row.shutter) && not row.request_error) (reverse (frames past))
    (λ n sent closed. closed-waits script h n legal sent closed) (λ n. ap (λ b. not b && not (has_error_request n past)) (timed-shutter n past)) (sent-in-order h)
    ∙ ap (λ (o : Option ℕ). option_map (row_of script h) o) (find-reverse (waits past) (frames past))

-- the frame that is next is open
next-open : (script : Script) (h : List Move) (k : ℕ) → IsLegal script (trace_of h) → IsNext (trace_of h) k → is_open k (trace_of h) ≡ true
next-open script h k legal next = elim (cases_Bool (is_open k (trace_of h))) [
  | inl open_ ↦ open_
  | inr closed ↦ (
      let past = trace_of h in
      let over = closed-waits script h k legal next.sent closed in
      absurd (false≢true (sym next.waiting ∙ by-waits (has_shutter k past) (has_error_request k past) over))
      )
]
  where
    by-waits : (a b : Bool) → (not a && not b) ≡ false → (a || b) ≡ true
    by-waits true b h = refl
    by-waits false true h = refl
    by-waits false false h = absurd (false≢true (sym h))

-- ---- the shutter

shutter-by : (script : Script) (h : List Move) (o : Option ℕ) → IsLegal script (trace_of h) → last_where (waits (trace_of h)) (frames (trace_of h)) ≡ o → shutter_from script (is_stopping (trace_of h)) (next_time script (trace_of h)) (option_map (plain.row_of script (trace_of h)) o) ≡ option_map (shutter_entry (next_time script (trace_of h))) (if_exposed script.faults (option_map (row_of script h) o))
shutter-by script h None legal at = refl
shutter-by script h (Some k) legal at =
    let past = trace_of h in
    let next = last-next script past k (last-is (waits past) (frames past) k (frames-fall script past legal) at) in
    let stopped = open-stopped script past k legal (next-open script h k legal next) in
    ap (λ b. if not b && not (device_fault script k) then Some (Shutter (record { 0 = k }) (next_time script past)) else None) (sym stopped)
    ∙ sym (map-if (shutter_entry (next_time script past)) (not (is_stopped k past) && not (device_fault script k)) (row_of script h k))

pub shutter_is : (script : Script) (h : List Move) → IsRun script h → shutter_due script (trace_of h) ≡ option_map (shutter_entry (next_time script (trace_of h))) (shutter_row script.faults (rows script h))
shutter_is script h run =
    let past = trace_of h in
    let legal = runs_legally script h run in
    shutter_reads script past legal
    ∙ (ap (λ (o : Option plain.Row). shutter_from script (is_stopping past) (next_time script past) o) (rows-next script past legal)
    ∙ (shutter-by script h (last_where (waits past) (frames past)) legal refl
    ∙ ap (λ (o : Option RowView). option_map (shutter_entry (next_time script past)) (if_exposed script.faults o)) (sym (next-row script h legal))))

-- ---- the device's failure

not-next : (script : Script) (h : List Move) (n : ℕ) → (is_next_for_sensor n (trace_of h) ≡ true → ⊥) → is_next_for_sensor n (trace_of h) ≡ false
not-next script h n no' = elim (cases_Bool (is_next_for_sensor n (trace_of h))) [ inl yes' ↦ absurd (no' yes') | inr other ↦ other ]

failure-by : (script : Script) (h : List Move) (n : ℕ) (o : Option ℕ) → IsLegal script (trace_of h) → last_where (waits (trace_of h)) (frames (trace_of h)) ≡ o → (not (is_stopping (trace_of h)) && (device_fault script n && is_next_for_sensor n (trace_of h))) ≡ is_failing script.faults n (option_map (row_of script h) o)
failure-by script h n None legal at =
    let none = not-next script h n (no_next script (trace_of h) legal at n) in
    rw none (by (not (is_stopping (trace_of h))) (device_fault script n))
  where
    by : (a b : Bool) → (a && (b && false)) ≡ false
    by true true = refl
    by true false = refl
    by false b = refl
failure-by script h n (Some k) legal at =
    let past = trace_of h in
    let next = last-next script past k (last-is (waits past) (frames past) k (frames-fall script past legal) at) in
    let stopped = open-stopped script past k legal (next-open script h k legal next) in
    elim (cases_Bool (k == n)) [
      | inl here ↦ (
          let at' = eqb-true k n here in
          let is : is_next_for_sensor n past ≡ true = ap (λ i. is_next_for_sensor i past) (sym at') ∙ next-from script past k legal next in
          rw (here, is, stopped) (by (not (is_stopping past)) (device_fault script n))
          )
      | inr other ↦ (
          let none = not-next script h n (λ is. false≢true (sym other ∙ eq-eqb k n (one-next past k n next (next-is script past n legal is)))) in
          rw (other, none) (none-by (not (is_stopping past)) (device_fault script n))
          )
    ]
  where
    by : (a b : Bool) → (a && (b && true)) ≡ (a && b)
    by true true = refl
    by true false = refl
    by false b = refl

    none-by : (a b : Bool) → (a && (b && false)) ≡ false
    none-by true true = refl
    none-by true false = refl
    none-by false b = refl

pub failure_is : (script : Script) (h : List Move) (n : ℕ) → IsLegal script (trace_of h) → failure_at script (trace_of h) n ≡ (if fails_device_at script.faults (rows script h) n then Some ErrorDevice else None)
failure_is script h n legal =
    ap (λ b. if b then Some ErrorDevice else None)
    (failure-by script h n (last_where (waits (trace_of h)) (frames (trace_of h))) legal refl
    ∙ ap (λ (o : Option RowView). is_failing script.faults n o) (sym (next-row script h legal)))
