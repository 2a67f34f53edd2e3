-- What the store keeps where a step moves a buffer or a readout.
use Rattle.std.proofs.Common.{◌≡◌, ℕ, ◌==◌, [], ◌∷◌, filter, if◌then◌else◌, Bool, true, false, ◌&&◌, ◌||◌, not, is_some, is_none, List, length, map, Option, Some, None, slice_get, slice_set, refl, ap, ◌∙◌, sym, arith, inl, inr}
use Rattle.std.specs.List.{find, list_all, list_any}
use Rattle.std.specs.Option.{option_map}
use Rattle.std.proofs.lemmas.Bool.{and_from, and_parts, both_ways, cases_Bool, eqb-true, false≢true, not-true}
use Rattle.cam_types.specs.Four.{four_list}
use Rattle.cam_types.specs.declared.number.StreamIx.{StreamIx}
use Rattle.cam_types.specs.declared.row.RowView.{RowView}
use Rattle.cam_types.specs.declared.row.SensorPlace.{SensorPlace}
use Rattle.cam_types.specs.declared.row.SensorPlace.TheVariants.{NotYet, Out as SensorOut, Home, WithFill}
use Rattle.cam_types.specs.declared.row.TargetState.{TargetState}
use Rattle.cam_types.specs.declared.row.TargetState.TheVariants.{Waiting, Out, Filled, ReturnedEarly, EarlyFilled, ReturnedOk, ReturnedFailed}
use Rattle.cam_types.specs.declared.row.TargetView.{TargetView}
use Rattle.cam_types.specs.declared.stream.StreamSpec.{StreamSpec}
use Rattle.device_rows.specs.Jobs.{is_fill_out, sensor_job}
use Rattle.device_rows.specs.Ready.{is_home, is_sensor_out, is_same_state, may_return_failed}
use Rattle.device_rows.specs.Rows.{exposed, fill_begun, fill_ended, filled_after, filled_from, row_at, sensor_home, target_at, with_row as with_view}
use Rattle.device_core.specs.declared.buffers.Held.{Held}
use Rattle.device_core.specs.declared.readouts.Slot.{Slot}
use Rattle.device_core.specs.declared.readouts.Slot.TheVariants.{Home as SlotHome, Away}
use Rattle.device_core.specs.Kept.{agree, agree_at, filled_for, fills_out, is_out, is_unbegun, is_waiting, waits, full, held_by, is_kept, is_kept_back, is_placed, IsKept, slot_of}
use Rattle.device_core.specs.Steps.{is_dark, is_filled}
use Rattle.device_core.specs.Stored.{specs_of, Stored, views}
use Rattle.device_rows.specs.declared.mark.Mark.TheVariants.{Sensor, Shutter, Target}
use Rattle.device_rows.specs.declared.table_row.Row.{Row}
use Rattle.device_rows.specs.Marks.{in_state, marked}
use Rattle.device_rows.specs.TableRows.{has_place, passes, row_of, Rows, view_of, with_mark, with_parked, with_row, with_rows}
use Rattle.request_checks.specs.declared.plan.Plan.{Plan}
use Rattle.device_core.proofs.Agree.{agree-begun, agree-ended, agree-exposed, agree-failed, agree-home, agree-moved, dark-sensor, placed-changed, placed-parts}
use Rattle.device_core.proofs.Ops.{early-full, full-same, is-target, IsTarget, place-free, slot-same, store-same, table-1, table-2, table-3, target-full}
use Rattle.device_core.proofs.Steps.{kept-stepped, slots-same, slots-set, Stands, stands, Stepped, stepped-1, stepped-2, stepped-3}
use Rattle.basic_lemmas.proofs.Lists.{all-found}

-- the store after a step on one row
pub record Moved (plan : Plan) (t u : Rows Held) (slots : List Slot) (spares slot_room spare_room n : ℕ) (change : RowView → RowView) : Type 0 where
  pub kept : IsKept plan u.rows u.capacity slots spares slot_room spare_room
  pub is : ◌≡◌ {A = Stored} (record { plan = plan; capacity = u.capacity; rows = views u.rows }) (record { plan = plan; capacity = t.capacity; rows = with_view n change (views t.rows) })

pub moved : (plan : Plan) (t u : Rows Held) (slots slots' : List Slot) (spares slot_room slot_room' spare_room n : ℕ) (change : RowView → RowView) (row : RowView) → IsKept plan t.rows t.capacity slots spares slot_room spare_room → Stands plan t.rows n row → Stepped plan t.rows u.rows n change → slots' ≡ map slot_of (with_view n change (views t.rows)) → is_kept (length (specs_of plan)) (change row) ≡ true → u.capacity ≡ t.capacity → slot_room' ≡ slot_room → ((v : RowView) → (change v).frame.0 ≡ v.frame.0) → Moved plan t u slots' spares slot_room' spare_room n change
moved plan t u slots slots' spares slot_room slot_room' spare_room n change row kept at step shown each same room keeps = record {
  kept = kept-stepped plan t.rows u.rows t.capacity u.capacity slots slots' spares slot_room slot_room' spare_room n change row kept at step shown each same room keeps;
  is = store-same plan t.capacity u.capacity (with_view n change (views t.rows)) (views u.rows) same step.is;
}

kept-target : (streams : ℕ) (row : RowView) (s : StreamIx) (st : TargetState) → is_placed streams row ≡ true → agree (marked (Target s st) row) ≡ true → is_kept streams (marked (Target s st) row) ≡ true
kept-target streams row s st placed agrees =
    and_from (is_placed streams (marked (Target s st) row)) (agree (marked (Target s st) row)) (placed-changed streams s.0 (in_state st) row (λ t. refl) placed) agrees

-- ---- a buffer that leaves

pub take-moved : (plan : Plan) (t u v : Rows Held) (slots : List Slot) (spares slot_room spare_room n : ℕ) (s : StreamIx) (st : TargetState) (row : RowView) (g : TargetView) → IsKept plan t.rows t.capacity slots spares slot_room spare_room → row_at n (views t.rows) ≡ Some row → target_at s.0 row ≡ Some g → u ≡ with_rows (with_row n (with_parked s.0 None) t.rows) t → v ≡ with_rows (with_row n (with_mark (Target s st)) u.rows) u → ((x : TargetView) (o : Option StreamSpec) → held_by st row x o ≡ None) → ((spec : StreamSpec) → IsTarget (specs_of plan) row s.0 g spec → agree (marked (Target s st) row) ≡ true) → Moved plan t v slots spares slot_room spare_room n (marked (Target s st))
take-moved plan t u v slots spares slot_room spare_room n s st row g kept found target is is' gone agrees =
    let at = stands plan t.rows t.capacity slots spares slot_room spare_room n row kept found in
    let (spec, tg) = is-target plan t.rows n s.0 row g at kept.offered target in
    let table = table-2 n (with_parked s.0 None) (with_mark (Target s st)) t u v is is' in
    let here = target-full (specs_of plan) row s st None tg.apart (λ x f. gone (in_state st x) (slice_get (specs_of plan) x.stream.0)) in
    let step = stepped-2 plan t.rows v.rows n (marked (Target s st)) row (with_parked s.0 None) (with_mark (Target s st)) at at.own here table.0 in
    let shown = slots-same plan t.rows n (marked (Target s st)) row slots at kept.shown (slot-same (marked (Target s st) row) row refl refl refl) in
    moved plan t v slots slots spares slot_room slot_room spare_room n (marked (Target s st)) row kept at step shown (kept-target (length (specs_of plan)) row s st tg.place (agrees spec tg)) table.1 refl (λ w. refl)

-- the states of a buffer that shows its picture
pub record IsFilledState (st : TargetState) : Type 0 where
  pub moved : is_kept_back st ≡ false
  pub in' : is_fill_out st ≡ false
  pub held : (row : RowView) (g : TargetView) (spec : StreamSpec) → held_by st row g (Some spec) ≡ Some (filled_for row g spec)

pub filled-state : (st : TargetState) → (is_same_state st Filled || is_same_state st EarlyFilled) ≡ true → IsFilledState st
filled-state Filled h = record { moved = refl; in' = refl; held = λ row g spec. refl }
filled-state EarlyFilled h = record { moved = refl; in' = refl; held = λ row g spec. refl }
filled-state _ h = absurd (false≢true h)

pub filled-moved : (plan : Plan) (t u v : Rows Held) (slots : List Slot) (spares slot_room spare_room n : ℕ) (s : StreamIx) (row : RowView) (g : TargetView) → IsKept plan t.rows t.capacity slots spares slot_room spare_room → row_at n (views t.rows) ≡ Some row → target_at s.0 row ≡ Some g → is_filled row g ≡ true → u ≡ with_rows (with_row n (with_parked s.0 None) t.rows) t → v ≡ with_rows (with_row n (with_mark (Target s ReturnedOk)) u.rows) u → Moved plan t v slots spares slot_room spare_room n (marked (Target s ReturnedOk))
filled-moved plan t u v slots spares slot_room spare_room n s row g kept found target filled is is' =
    let state = filled-state g.state filled in
    take-moved plan t u v slots spares slot_room spare_room n s ReturnedOk row g kept found target is is' (λ x o. refl) (λ spec tg. agree-moved row.sensor row s ReturnedOk g tg.order tg.found state.moved state.in' tg.agrees)

-- the states of a buffer that may come back in error
pub record IsFailingState (st : TargetState) : Type 0 where
  pub in' : is_fill_out st ≡ false

failing-state : (st : TargetState) → (is_same_state st Waiting || is_same_state st Filled) ≡ true → is_fill_out st ≡ false
failing-state Waiting h = refl
failing-state Filled h = refl
failing-state _ h = absurd (false≢true h)

pub failed-moved : (plan : Plan) (t u v : Rows Held) (slots : List Slot) (spares slot_room spare_room n : ℕ) (s : StreamIx) (row : RowView) (g : TargetView) → IsKept plan t.rows t.capacity slots spares slot_room spare_room → row_at n (views t.rows) ≡ Some row → target_at s.0 row ≡ Some g → may_return_failed row g ≡ true → u ≡ with_rows (with_row n (with_parked s.0 None) t.rows) t → v ≡ with_rows (with_row n (with_mark (Target s ReturnedFailed)) u.rows) u → Moved plan t v slots spares slot_room spare_room n (marked (Target s ReturnedFailed))
failed-moved plan t u v slots spares slot_room spare_room n s row g kept found target failed is is' =
    let parts = and_parts (row.request_error || g.announced) (not (is_sensor_out row.sensor) && (is_same_state g.state Waiting || is_same_state g.state Filled)) failed in
    let later = and_parts (not (is_sensor_out row.sensor)) (is_same_state g.state Waiting || is_same_state g.state Filled) parts.1 in
    take-moved plan t u v slots spares slot_room spare_room n s ReturnedFailed row g kept found target is is' (λ x o. refl) (λ spec tg. agree-failed row.sensor row s g tg.order tg.found (failing-state g.state later.1) parts.0 (not-true (is_sensor_out row.sensor) later.0) tg.agrees)

-- ---- the sensor

home-place : (place : SensorPlace) → is_sensor_out place ≡ true → place ≡ SensorOut
home-place SensorOut h = refl
home-place NotYet h = absurd (false≢true h)
home-place Home h = absurd (false≢true h)
home-place WithFill h = absurd (false≢true h)

pub is-home-place : (place : SensorPlace) → is_home place ≡ true → place ≡ Home
is-home-place Home h = refl
is-home-place NotYet h = absurd (false≢true h)
is-home-place SensorOut h = absurd (false≢true h)
is-home-place WithFill h = absurd (false≢true h)

-- a row that may be exposed
pub record Dark (streams : ℕ) (row : RowView) : Type 0 where
  pub sensor : row.sensor ≡ NotYet
  pub each : (time : ℕ) → is_kept streams (exposed time row) ≡ true

pub dark-row : (streams : ℕ) (row : RowView) → is_kept streams row ≡ true → is_dark (Some row) ≡ true → Dark streams row
dark-row streams row kept dark =
    let parts = and_parts (not (is_some row.shutter)) (not row.request_error) dark in
    let own = and_parts (is_placed streams row) (agree row) kept in
    let sensor = dark-sensor row.sensor row own.1 (not-true (is_some row.shutter) parts.0) in
    let agrees : agree_at NotYet row ≡ true = rw sensor at own.1 in
    let placed = placed-parts streams row own.0 in
    record {
      sensor = sensor;
      each = λ time. and_from (is_placed streams (exposed time row)) (agree (exposed time row)) own.0 (agree-exposed row time placed.some (not-true row.request_error parts.1) agrees);
    }

pub dark-at : (o : Option RowView) → is_dark o ≡ true → (row : RowView) × (o ≡ Some row) × (is_dark (Some row) ≡ true)
dark-at (Some row) h = (row, refl, h)
dark-at None h = absurd (false≢true h)

-- ---- a buffer that goes early

pub early-moved : (plan : Plan) (t u : Rows Held) (slots : List Slot) (spares slot_room spare_room n : ℕ) (s : StreamIx) (row : RowView) (g : TargetView) (spec : StreamSpec) → IsKept plan t.rows t.capacity slots spares slot_room spare_room → Stands plan t.rows n row → IsTarget (specs_of plan) row s.0 g spec → g.state ≡ Out → u ≡ with_rows (with_row n (with_mark (Target s ReturnedEarly)) t.rows) t → Moved plan t u slots spares slot_room spare_room n (marked (Target s ReturnedEarly))
early-moved plan t u slots spares slot_room spare_room n s row g spec kept at tg out is =
    let table = table-1 t u (with_row n (with_mark (Target s ReturnedEarly)) t.rows) is in
    let here = early-full (specs_of plan) row s g tg.apart tg.found out in
    let step = stepped-1 plan t.rows u.rows n (marked (Target s ReturnedEarly)) row (with_mark (Target s ReturnedEarly)) at here table.0 in
    let shown = slots-same plan t.rows n (marked (Target s ReturnedEarly)) row slots at kept.shown (slot-same (marked (Target s ReturnedEarly) row) row refl refl refl) in
    let still : is_kept_back g.state ≡ false = rw out refl in
    let same : is_fill_out g.state ≡ true = rw out refl in
    moved plan t u slots slots spares slot_room slot_room spare_room n (marked (Target s ReturnedEarly)) row kept at step shown (kept-target (length (specs_of plan)) row s ReturnedEarly tg.place (agree-moved row.sensor row s ReturnedEarly g tg.order tg.found still same tg.agrees)) table.1 refl (λ w. refl)

-- ---- the sensor takes the readout, and gives it back

pub exposed-moved : (plan : Plan) (t u v : Rows Held) (slots slots' : List Slot) (spares slot_room slot_room' spare_room n i time : ℕ) (row : RowView) → IsKept plan t.rows t.capacity slots spares slot_room spare_room → row_at n (views t.rows) ≡ Some row → is_dark (Some row) ≡ true → option_map view_of (slice_get t.rows i) ≡ Some row → row.frame.0 ≡ n → slots' ≡ slice_set slots i Away → u ≡ with_rows (with_row n (with_mark (Shutter time)) t.rows) t → v ≡ with_rows (with_row n (with_mark (Sensor SensorOut)) u.rows) u → slot_room' ≡ slot_room → Moved plan t v slots' spares slot_room' spare_room n (exposed time)
exposed-moved plan t u v slots slots' spares slot_room slot_room' spare_room n i time row kept found dark placed own swapped is is' room =
    let at = stands plan t.rows t.capacity slots spares slot_room spare_room n row kept found in
    let table = table-2 n (with_mark (Shutter time)) (with_mark (Sensor SensorOut)) t u v is is' in
    let here = full-same (specs_of plan) row (exposed time row) refl refl refl in
    let step = stepped-2 plan t.rows v.rows n (exposed time) row (with_mark (Shutter time)) (with_mark (Sensor SensorOut)) at at.own here table.0 in
    let shown = slots-set plan t.rows n i (exposed time) row slots slots' Away at kept.shown placed own refl swapped in
    moved plan t v slots slots' spares slot_room slot_room' spare_room n (exposed time) row kept at step shown ((dark-row (length (specs_of plan)) row at.kept dark).each time) table.1 room (λ w. refl)

kept-home : (streams : ℕ) (row : RowView) → row.sensor ≡ SensorOut → is_kept streams row ≡ true → is_kept streams (sensor_home row) ≡ true
kept-home streams row out kept =
    let own = and_parts (is_placed streams row) (agree row) kept in
    let agrees : agree_at SensorOut row ≡ true = rw out at own.1 in
    and_from (is_placed streams (sensor_home row)) (agree (sensor_home row)) own.0 (agree-home row agrees)

pub home-moved : (plan : Plan) (t u : Rows Held) (slots slots' : List Slot) (spares slot_room slot_room' spare_room n i : ℕ) (row : RowView) (slot : Slot) → IsKept plan t.rows t.capacity slots spares slot_room spare_room → row_at n (views t.rows) ≡ Some row → is_sensor_out row.sensor ≡ true → option_map view_of (slice_get t.rows i) ≡ Some row → row.frame.0 ≡ n → slot ≡ SlotHome (sensor_job row) → slots' ≡ slice_set slots i slot → u ≡ with_rows (with_row n (with_mark (Sensor Home)) t.rows) t → slot_room' ≡ slot_room → Moved plan t u slots' spares slot_room' spare_room n sensor_home
home-moved plan t u slots slots' spares slot_room slot_room' spare_room n i row slot kept found out placed own filled swapped is room =
    let at = stands plan t.rows t.capacity slots spares slot_room spare_room n row kept found in
    let table = table-1 t u (with_row n (with_mark (Sensor Home)) t.rows) is in
    let here = full-same (specs_of plan) row (sensor_home row) refl refl refl in
    let step = stepped-1 plan t.rows u.rows n sensor_home row (with_mark (Sensor Home)) at here table.0 in
    let shown = slots-set plan t.rows n i sensor_home row slots slots' slot at kept.shown placed own filled swapped in
    moved plan t u slots slots' spares slot_room slot_room' spare_room n sensor_home row kept at step shown (kept-home (length (specs_of plan)) row (home-place row.sensor out) at.kept) table.1 room (λ w. refl)

-- ---- a stage takes a buffer and the readout, and gives them back

pub begun-moved : (plan : Plan) (t u v w : Rows Held) (slots slots' : List Slot) (spares slot_room slot_room' spare_room n i : ℕ) (s : StreamIx) (row : RowView) (g : TargetView) (spec : StreamSpec) → IsKept plan t.rows t.capacity slots spares slot_room spare_room → Stands plan t.rows n row → IsTarget (specs_of plan) row s.0 g spec → g.state ≡ Waiting → row.sensor ≡ Home → option_map view_of (slice_get t.rows i) ≡ Some row → row.frame.0 ≡ n → slots' ≡ slice_set slots i Away → u ≡ with_rows (with_row n (with_parked s.0 None) t.rows) t → v ≡ with_rows (with_row n (with_mark (Target s Out)) u.rows) u → w ≡ with_rows (with_row n (with_mark (Sensor WithFill)) v.rows) v → slot_room' ≡ slot_room → Moved plan t w slots' spares slot_room' spare_room n (fill_begun s)
begun-moved plan t u v w slots slots' spares slot_room slot_room' spare_room n i s row g spec kept at tg waiting home placed own swapped is is' is'' room =
    let table = table-3 n (with_parked s.0 None) (with_mark (Target s Out)) (with_mark (Sensor WithFill)) t u v w is is' is'' in
    let first = target-full (specs_of plan) row s Out None tg.apart (λ x f. refl) in
    let here = ap (λ (z : Row Held). with_mark (Sensor WithFill) z) first ∙ full-same (specs_of plan) (marked (Target s Out) row) (fill_begun s row) refl refl refl in
    let step = stepped-3 plan t.rows w.rows n (fill_begun s) row (with_parked s.0 None) (with_mark (Target s Out)) (with_mark (Sensor WithFill)) at at.own at.own here table.0 in
    let shown = slots-set plan t.rows n i (fill_begun s) row slots slots' Away at kept.shown placed own refl swapped in
    let agrees : agree_at Home row ≡ true = rw home at tg.agrees in
    let in' : is_fill_out g.state ≡ false = rw waiting refl in
    let each = and_from (is_placed (length (specs_of plan)) (fill_begun s row)) (agree (fill_begun s row)) (placed-changed (length (specs_of plan)) s.0 (in_state Out) row (λ x. refl) tg.place) (agree-begun row s g tg.order tg.found in' agrees) in
    moved plan t w slots slots' spares slot_room slot_room' spare_room n (fill_begun s) row kept at step shown each table.1 room (λ x. refl)

counted : {X : Type 0} (p q : X → Bool) (xs : List X) (x : X) → find q xs ≡ Some x → p x ≡ true → length (filter p xs) ≡ 0 → ⊥
counted p q [] x h yes' none = absurd (cc)
counted p q (y ∷ xs) x h yes' none =
    elim (cases_Bool (q y)) [
      | inl here ↦ (let h' = rw here at h in let same : p y ≡ true = (let e : y ≡ x = cc in rw e yes') in let none' = rw same at none in omega (arith, none'))
      | inr other ↦ (
          let h' = rw other at h in
          elim (cases_Bool (p y)) [
            | inl some ↦ (let none' = rw some at none in omega (arith, none'))
            | inr no' ↦ (let none' = rw no' at none in counted p q xs x h' yes' none')
          ]
          )
    ]

out-moved : (st : TargetState) → is_fill_out st ≡ true → (is_kept_back st ≡ false) × (is_waiting st ≡ false)
out-moved Out h = (refl, refl)
out-moved ReturnedEarly h = (refl, refl)
out-moved _ h = absurd (false≢true h)

-- while a stage fills a buffer, the readout is with it
pub out-place : (place : SensorPlace) (row : RowView) (s : ℕ) (g : TargetView) → target_at s row ≡ Some g → is_fill_out g.state ≡ true → agree_at place row ≡ true → place ≡ WithFill
out-place NotYet row s g found out agrees =
    let parts = and_parts (is_none row.shutter) (list_all is_unbegun (four_list row.targets) && (row.request_error || list_all waits (four_list row.targets))) agrees in
    let later = and_parts (list_all is_unbegun (four_list row.targets)) (row.request_error || list_all waits (four_list row.targets)) parts.1 in
    let own = all-found is_unbegun (λ u. u.stream.0 == s) (four_list row.targets) g later.0 found in
    absurd (both_ways (is_kept_back g.state) (out-moved g.state out).0 (and_parts (is_kept_back g.state) (not g.announced) own).0)
out-place SensorOut row s g found out agrees =
    let parts = and_parts (is_some row.shutter) (list_any waits (four_list row.targets) && list_all waits (four_list row.targets)) agrees in
    let later = and_parts (list_any waits (four_list row.targets)) (list_all waits (four_list row.targets)) parts.1 in
    let own = all-found waits (λ u. u.stream.0 == s) (four_list row.targets) g later.1 found in
    absurd (both_ways (is_waiting g.state) (out-moved g.state out).1 own)
out-place Home row s g found out agrees =
    let parts = and_parts (is_some row.shutter) (fills_out row == 0) agrees in
    absurd (counted is_out (λ u. u.stream.0 == s) (four_list row.targets) g found out (eqb-true (fills_out row) 0 parts.1))
out-place WithFill row s g found out agrees = refl

filled-from-held : (st : TargetState) (row : RowView) (g : TargetView) (spec : StreamSpec) → held_by (filled_from st) row g (Some spec) ≡ Some (filled_for row g spec)
filled-from-held Waiting row g spec = refl
filled-from-held _ row g spec = refl

pub filled-from-in : (st : TargetState) → is_fill_out (filled_from st) ≡ false
filled-from-in Waiting = refl
filled-from-in _ = refl

pub out-held : (st : TargetState) (row : RowView) (g : TargetView) (spec : StreamSpec) → is_fill_out st ≡ true → held_by st row g (Some spec) ≡ None
out-held Out row g spec h = refl
out-held ReturnedEarly row g spec h = refl
out-held _ row g spec h = absurd (false≢true h)

-- the row once a fill has ended in this state
abbrev pub ended_in : StreamIx → TargetState → RowView → RowView
ended_in s st row = marked (Sensor Home) (marked (Target s st) row)

pub ended-moved : (plan : Plan) (t u v w : Rows Held) (slots slots' : List Slot) (spares slot_room slot_room' spare_room n i : ℕ) (s : StreamIx) (row : RowView) (g : TargetView) (spec : StreamSpec) (slot : Slot) → IsKept plan t.rows t.capacity slots spares slot_room spare_room → Stands plan t.rows n row → IsTarget (specs_of plan) row s.0 g spec → is_fill_out g.state ≡ true → option_map view_of (slice_get t.rows i) ≡ Some row → row.frame.0 ≡ n → slot ≡ SlotHome (sensor_job row) → slots' ≡ slice_set slots i slot → u ≡ with_rows (if passes (has_place s.0) (row_of n t.rows) then with_row n (with_parked s.0 (Some (filled_for row g spec))) t.rows else t.rows) t → v ≡ with_rows (with_row n (with_mark (Target s (filled_from g.state))) u.rows) u → w ≡ with_rows (with_row n (with_mark (Sensor Home)) v.rows) v → slot_room' ≡ slot_room → Moved plan t w slots' spares slot_room' spare_room n (fill_ended s)
ended-moved plan t u v w slots slots' spares slot_room slot_room' spare_room n i s row g spec slot kept at tg out placed own filled swapped is is' is'' room =
    let st : TargetState = filled_from g.state in
    let thing : Option Held = Some (filled_for row g spec) in
    let free = place-free plan t.rows n s.0 row g spec at tg (out-held g.state row g spec out) in
    let first : u ≡ with_rows (with_row n (with_parked s.0 thing) t.rows) t = rw free at is in
    let table = table-3 n (with_parked s.0 thing) (with_mark (Target s st)) (with_mark (Sensor Home)) t u v w first is' is'' in
    let full' = target-full (specs_of plan) row s st thing tg.apart (λ x f. (
    let both : Some x ≡ Some g = sym f ∙ tg.found in
    let same : x ≡ g = cc in
    ap (λ (z : TargetView). held_by st row (in_state st z) (slice_get (specs_of plan) z.stream.0)) same ∙ (ap (λ (z : Option StreamSpec). held_by st row (in_state st g) z) tg.spec_is ∙ filled-from-held g.state row (in_state st g) spec)
    )) in
    let change : fill_ended s row ≡ ended_in s st row = ap (λ (z : Option TargetView). ended_in s (filled_after z) row) tg.found in
    let here = ap (λ (z : Row Held). with_mark (Sensor Home) z) full' ∙ (full-same (specs_of plan) (marked (Target s st) row) (ended_in s st row) refl refl refl ∙ ap (λ (z : RowView). full (specs_of plan) z) (sym change)) in
    let step = stepped-3 plan t.rows w.rows n (fill_ended s) row (with_parked s.0 thing) (with_mark (Target s st)) (with_mark (Sensor Home)) at at.own at.own here table.0 in
    let shown = slots-set plan t.rows n i (fill_ended s) row slots slots' slot at kept.shown placed own (filled ∙ refl) swapped in
    let place = out-place row.sensor row s.0 g tg.found out tg.agrees in
    let agrees : agree_at WithFill row ≡ true = rw place at tg.agrees in
    let each : is_kept (length (specs_of plan)) (ended_in s st row) ≡ true = and_from (is_placed (length (specs_of plan)) (ended_in s st row)) (agree (ended_in s st row)) (placed-changed (length (specs_of plan)) s.0 (in_state st) row (λ x. refl) tg.place) (agree-ended row s st g tg.order tg.found out (filled-from-in g.state) agrees) in
    moved plan t w slots slots' spares slot_room slot_room' spare_room n (fill_ended s) row kept at step shown (ap (λ (z : RowView). is_kept (length (specs_of plan)) z) change ∙ each) table.1 room (λ x. refl)
