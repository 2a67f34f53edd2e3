-- What each call leaves of the rows, and that its events break no rule.
use Rattle.std.proofs.Common.{◌≡◌, ℕ, ◌==◌, ◌+◌, Bool, true, false, ◌&&◌, ◌||◌, not, nat_lt, if◌then◌else◌, List, [], ◌∷◌, ◌++◌, Option, Some, None, is_some, refl, sym, ap, ◌∙◌, inl, inr, arith}
use Rattle.std.specs.List.{list_all}
use Rattle.std.specs.Option.{option_map}
use Rattle.std.proofs.lemmas.Bool.{and_parts, cases_Bool, eqb-true, false≢true}
use Rattle.std.proofs.lemmas.Bool.Decides.{nat_tests}
use Rattle.basic_lemmas.proofs.Lists.{all-agree, all-append, all-filtered, all-mapped, all-where, find-mapped, found-passes}
use Rattle.cam_types.specs.Rows.{awaits_metadata, is_returned}
use Rattle.cam_types.specs.declared.partial_result.PartialResult.{PartialResult}
use Rattle.cam_types.specs.declared.row.RowView.{RowView}
use Rattle.cam_types.specs.declared.row.TargetState.{TargetState}
use Rattle.cam_types.specs.declared.row.TargetState.TheVariants.{Waiting, Out, Filled}
use Rattle.cam_types.specs.declared.row.TargetView.{TargetView}
use Rattle.cam_types.specs.declared.script.Fault.{Fault}
use Rattle.device_rows.specs.Faults.{fault_of_buffer, fault_of_request}
use Rattle.device_rows.specs.Ready.{if_exposed, is_home, is_passed, is_retire_ready, is_sensor_out, is_sound, is_same_state, may_be_last, may_expose, may_fill as may_fill_row, may_return_failed as may_return_failed_row, may_send_part, next_exposure, next_part, partial_of, part_with, shutter_row}
use Rattle.device_rows.specs.Rows.{all_stopped, row_at, with_row, without}
use Rattle.device_core.proofs.General.{rises-filtered, rises-mapped, rises-push}
use Rattle.device_core.specs.Stored.{are_before, frame_number, rises}
use Rattle.hal_device_model.specs.Calls.{settled}
use Rattle.hal_device_model.proofs.Apart.{speaks}
use Rattle.hal_device_model.proofs.Fits.{Fits, RowFits, fits_beside}
use Rattle.hal_device_model.proofs.Found.{each_changed, found_key, found_left, found_more}
use Rattle.hal_model.specs.declared.event.HalEvent.{HalEvent}
use Rattle.device_rows.specs.Marks.{marked}
use Rattle.device_rows.specs.declared.mark.Mark.TheVariants.{Stopped}
use Rattle.basic_lemmas.proofs.Tests.{not-true}

-- the rows, and the log of them
pub record Rows (next : ℕ) (past : List HalEvent) (rows : List RowView) : Type 0 where
  pub order : rises frame_number rows ≡ true
  pub before : are_before next rows ≡ true
  pub fits : Fits past rows

-- ---- the row of one frame changes

kept-key : (n : ℕ) (change : RowView → RowView) → ((row : RowView) → (change row).frame.0 ≡ row.frame.0) → (row : RowView) → frame_number (if row.frame.0 == n then change row else row) ≡ frame_number row
kept-key n change same row = by (row.frame.0 == n)
  where
    by : (b : Bool) → frame_number (if b then change row else row) ≡ frame_number row
    by true = same row
    by false = refl

order-changed : (n : ℕ) (change : RowView → RowView) (rows : List RowView) → ((row : RowView) → (change row).frame.0 ≡ row.frame.0) → rises frame_number rows ≡ true → rises frame_number (with_row n change rows) ≡ true
order-changed n change rows same h = rises-mapped frame_number (λ row. if row.frame.0 == n then change row else row) rows (kept-key n change same) ∙ h

pub before-changed : (next n : ℕ) (change : RowView → RowView) (rows : List RowView) → ((row : RowView) → (change row).frame.0 ≡ row.frame.0) → are_before next rows ≡ true → are_before next (with_row n change rows) ≡ true
before-changed next n change rows same h =
    all-mapped (λ row. nat_lt row.frame.0 next) (λ row. if row.frame.0 == n then change row else row) rows
    ∙ (all-agree (λ row. nat_lt (if row.frame.0 == n then change row else row).frame.0 next) (λ row. nat_lt row.frame.0 next) rows (λ row. ap (λ k. nat_lt k next) (kept-key n change same row)) ∙ h)

fits-changed : (n : ℕ) (change : RowView → RowView) (rows : List RowView) (after : List HalEvent) → ((row : RowView) → (change row).frame.0 ≡ row.frame.0) → ((row : RowView) → row_at n rows ≡ Some row → RowFits n after (change row)) → ((m : ℕ) (row : RowView) → (m == n) ≡ false → row_at m rows ≡ Some row → RowFits m after row) → Fits after (with_row n change rows)
fits-changed n change rows after same own others = each_changed (λ m row. RowFits m after row) n change rows same own others

-- and an event of that frame is told
pub rows_told : (next n : ℕ) (change : RowView → RowView) (e : HalEvent) (past : List HalEvent) (rows : List RowView) → ((row : RowView) → (change row).frame.0 ≡ row.frame.0) → ((m : ℕ) → (m == n) ≡ false → speaks m e ≡ false) → ((row : RowView) → row_at n rows ≡ Some row → RowFits n past row → RowFits n (e ∷ past) (change row)) → Rows next past rows → Rows next (e ∷ past) (with_row n change rows)
rows_told next n change e past rows same silent own r = record {
  order = order-changed n change rows same r.order;
  before = before-changed next n change rows same r.before;
  fits = fits-changed n change rows (e ∷ past) same (λ row at. own row at (r.fits n row at)) (λ m row other at. fits_beside m e past row (silent m other) (r.fits m row at));
}

-- or none
pub rows_moved : (next n : ℕ) (change : RowView → RowView) (past : List HalEvent) (rows : List RowView) → ((row : RowView) → (change row).frame.0 ≡ row.frame.0) → ((row : RowView) → row_at n rows ≡ Some row → RowFits n past row → RowFits n past (change row)) → Rows next past rows → Rows next past (with_row n change rows)
rows_moved next n change past rows same own r = record {
  order = order-changed n change rows same r.order;
  before = before-changed next n change rows same r.before;
  fits = fits-changed n change rows past same (λ row at. own row at (r.fits n row at)) (λ m row other at. r.fits m row at);
}

-- ---- the row of a frame that isn't open goes

pub rows_settled : (next n : ℕ) (past : List HalEvent) (rows : List RowView) → Rows next past rows → Rows next past (settled n rows)
rows_settled next n past rows r = by (is_retire_ready rows n)
  where
    by : (b : Bool) → Rows next past (if b then without n rows else rows)
    by true = record {
      order = rises-filtered frame_number (λ row. not (row.frame.0 == n)) rows r.order;
      before = all-filtered (λ row. nat_lt row.frame.0 next) (λ row. not (row.frame.0 == n)) rows r.before;
      fits = λ m row at. r.fits m row (found_left frame_number m n rows row at);
    }
    by false = r

-- ---- all rows stop

pub rows_stopped : (next : ℕ) (past : List HalEvent) (rows : List RowView) → ((n : ℕ) (row : RowView) → RowFits n past row → RowFits n past (marked Stopped row)) → Rows next past rows → Rows next past (all_stopped rows)
rows_stopped next past rows stop r = record {
  order = rises-mapped frame_number (marked Stopped) rows (λ row. refl) ∙ r.order;
  before = all-mapped (λ row. nat_lt row.frame.0 next) (marked Stopped) rows ∙ r.before;
  fits = λ n row at. by n row (row_at n rows) refl (sym (find-mapped (λ row'. row'.frame.0 == n) (marked Stopped) rows) ∙ at);
}
  where
    by : (n : ℕ) (new : RowView) (o : Option RowView) → row_at n rows ≡ o → option_map (marked Stopped) o ≡ Some new → RowFits n past new
    by n new (Some row) found g =
        let is : marked Stopped row ≡ new = cc in
        rw (← is) (stop n row (r.fits n row found))
    by n new None found g = absurd (cc)

-- ---- an event of no frame, or of one that has no row

pub rows_beside : (next : ℕ) (e : HalEvent) (past : List HalEvent) (rows : List RowView) → ((n : ℕ) (row : RowView) → row_at n rows ≡ Some row → speaks n e ≡ false) → Rows next past rows → Rows next (e ∷ past) rows
rows_beside next e past rows silent r = record {
  order = r.order;
  before = r.before;
  fits = λ n row at. fits_beside n e past row (silent n row at) (r.fits n row at);
}

-- ---- a row is added

below-next : (f n next : ℕ) → nat_lt f next ≡ true → nat_lt n next ≡ false → nat_lt f n ≡ true
below-next f n next h g = grind (arith, nat_tests, h, g)

-- each row that stands is of a frame below
pub stands_below : (next n m : ℕ) (rows : List RowView) (row : RowView) → are_before next rows ≡ true → nat_lt n next ≡ false → row_at m rows ≡ Some row → nat_lt m n ≡ true
stands_below next n m rows row h new at =
    let own : (row.frame.0 == m) ≡ true = found-passes (λ (r : RowView). r.frame.0 == m) rows row at in
    let low = passes rows h at in
    ap (λ (i : ℕ). nat_lt i n) (sym (eqb-true row.frame.0 m own)) ∙ below-next row.frame.0 n next low new
  where
    passes : (rs : List RowView) → are_before next rs ≡ true → row_at m rs ≡ Some row → nat_lt row.frame.0 next ≡ true
    passes [] g at' = absurd (cc)
    passes (r ∷ rs) g at' =
        let parts = and_parts (nat_lt r.frame.0 next) (list_all (λ x. nat_lt x.frame.0 next) rs) g in
        elim (cases_Bool (r.frame.0 == m)) [
          | inl here ↦ (let k = rw here at at' in let is : r ≡ row = cc in rw (← is) parts.0)
          | inr other ↦ (let k = rw other at at' in passes rs parts.1 k)
        ]

less-one : (f n next : ℕ) → nat_lt f next ≡ true → nat_lt n next ≡ false → nat_lt f (n + 1) ≡ true
less-one f n next h g = grind (arith, nat_tests, h, g)

self-less : (n : ℕ) → nat_lt n (n + 1) ≡ true
self-less n = grind (arith, nat_tests)

pub rows_added : (next : ℕ) (past after : List HalEvent) (rows : List RowView) (row : RowView) → nat_lt row.frame.0 next ≡ false → ((m : ℕ) (r : RowView) → row_at m rows ≡ Some r → RowFits m past r → RowFits m after r) → RowFits row.frame.0 after row → Rows next past rows → Rows (row.frame.0 + 1) after (rows ++ row ∷ [])
rows_added next past after rows row new others own r = record {
  order = rises-push frame_number rows row r.order (all-where (λ (x : RowView). nat_lt x.frame.0 next) (λ (x : RowView). nat_lt x.frame.0 row.frame.0) rows (λ x h. below-next x.frame.0 row.frame.0 next h new) r.before);
  before = all-append (λ (x : RowView). nat_lt x.frame.0 (row.frame.0 + 1)) rows (row ∷ []) (all-where (λ (x : RowView). nat_lt x.frame.0 next) (λ (x : RowView). nat_lt x.frame.0 (row.frame.0 + 1)) rows (λ x h. less-one x.frame.0 row.frame.0 next h new) r.before) (rw (self-less row.frame.0) refl);
  fits = λ m x at. elim (found_more (λ (y : RowView). y.frame.0 == m) rows row x at) [
    | inl old ↦ others m x old (r.fits m x old)
    | inr last ↦ (
        let is : row.frame.0 ≡ m = eqb-true row.frame.0 m last.0 in
        rw (← last.1, ← is) own
        )
  ];
}

-- ---- which row a step is of

-- the next exposure is of a row without shutter or error
pub record Dark (rows : List RowView) (row : RowView) : Type 0 where
  pub found : row_at row.frame.0 rows ≡ Some row
  pub dark : is_some row.shutter ≡ false
  pub sound : row.request_error ≡ false

pub next_dark : (faults : List Fault) (rows : List RowView) (row : RowView) → rises frame_number rows ≡ true → shutter_row faults rows ≡ Some row → Dark rows row
next_dark faults rows row order h = by (next_exposure rows) refl h
  where
    by : (o : Option RowView) → next_exposure rows ≡ o → if_exposed faults o ≡ Some row → Dark rows row
    by None at g = absurd (cc)
    by (Some x) at g = by-may (may_expose faults x) g
      where
        by-may : (b : Bool) → (if b then Some x else None) ≡ Some row → Dark rows row
        by-may false k = absurd (cc)
        by-may true k =
            let is : x ≡ row = cc in
            let at' : next_exposure rows ≡ Some row = at ∙ ap Some is in
            let test = found-passes (λ (r : RowView). not (is_some r.shutter) && not r.request_error) rows row at' in
            let parts = and_parts (not (is_some row.shutter)) (not row.request_error) test in
            record {
              found = found_key frame_number (λ (r : RowView). not (is_some r.shutter) && not r.request_error) rows row order at';
              dark = not-true (is_some row.shutter) parts.0;
              sound = not-true row.request_error parts.1;
            }

-- the next part is the one behind those that were sent
pub record Sends (n k : ℕ) (rows : List RowView) : Type 0 where
  pub row : RowView
  pub found : row_at n rows ≡ Some row
  pub number : k ≡ row.parts + 1
  pub few : nat_lt row.parts 3 ≡ true
  pub sound : row.request_error ≡ false
  pub awaits : awaits_metadata row ≡ true
  pub lit : is_some row.shutter ≡ true

pub next_sends : (faults : List Fault) (rows : List RowView) (n : ℕ) (sent : ℕ × PartialResult) → next_part faults rows n ≡ Some sent → Sends n sent.0 rows
next_sends faults rows n sent h = by (row_at n rows) refl h
  where
    by-may : (row : RowView) (time : ℕ) (part : PartialResult) (b : Bool) → row_at n rows ≡ Some row → row.shutter ≡ Some time → may_send_part faults rows row ≡ b → (if b then Some (row.parts + 1, part) else None) ≡ Some sent → Sends n sent.0 rows
    by-may row time part true found shutter may g =
        let first = (and_parts (awaits_metadata row && not (fault_of_request faults row.frame.0)) (not (row.parts == 2) || may_be_last faults rows row) may).0 in
        let awaits = (and_parts (awaits_metadata row) (not (fault_of_request faults row.frame.0)) first).0 in
        let two = and_parts (nat_lt row.parts 3) (not row.result_error && not row.request_error) awaits in
        let is : (row.parts + 1, part) ≡ sent = cc in
        record {
          row = row;
          found = found;
          number = sym (ap (λ (x : ℕ × PartialResult). x.0) is);
          few = two.0;
          awaits = awaits;
          lit = rw shutter refl;
          sound = not-true row.request_error (and_parts (not row.result_error) (not row.request_error) two.1).1;
        }
    by-may row time part false found shutter may g = absurd (cc)

    by-time : (row : RowView) (o : Option ℕ) → row_at n rows ≡ Some row → row.shutter ≡ o → part_with faults rows row o ≡ Some sent → Sends n sent.0 rows
    by-time row (Some time) found shutter g = by-may row time _ (may_send_part faults rows row) found shutter refl g
    by-time row None found shutter g = absurd (cc)

    by : (o : Option RowView) → row_at n rows ≡ o → partial_of faults rows o ≡ Some sent → Sends n sent.0 rows
    by (Some row) found g = by-time row row.shutter found refl g
    by None found g = absurd (cc)

pub waiting_out : (st : TargetState) → is_same_state st Waiting ≡ true → is_returned st ≡ false
waiting_out Waiting h = refl
waiting_out Out h = refl
waiting_out Filled h = refl
waiting_out _ h = absurd (false≢true h)

pub filled_out : (st : TargetState) → is_same_state st Filled ≡ true → is_returned st ≡ false
filled_out Waiting h = refl
filled_out Out h = refl
filled_out Filled h = refl
filled_out _ h = absurd (false≢true h)

pub fill_waits : (faults : List Fault) (signalled : ℕ → Bool) (row : RowView) (t : TargetView) → may_fill_row faults signalled row t ≡ true → is_returned t.state ≡ false
fill_waits faults signalled row t h =
    let a = and_parts (is_sound faults row t && is_same_state t.state Waiting) (is_home row.sensor && is_passed signalled t.fence) h in
    waiting_out t.state (and_parts (is_sound faults row t) (is_same_state t.state Waiting) a.0).1

pub record Good (row : RowView) (t : TargetView) : Type 0 where
  pub out : is_returned t.state ≡ false
  pub sound : row.request_error ≡ false
  pub untold : t.announced ≡ false

pub delivery_good : (faults : List Fault) (rows : List RowView) (row : RowView) (t : TargetView) (below : Bool) → (is_same_state t.state Filled && ((is_sound faults row t && is_some row.shutter) && below)) ≡ true → Good row t
delivery_good faults rows row t below h =
    let a = and_parts (is_same_state t.state Filled) ((is_sound faults row t && is_some row.shutter) && below) h in
    let b = and_parts (is_sound faults row t && is_some row.shutter) below a.1 in
    let c = and_parts (is_sound faults row t) (is_some row.shutter) b.0 in
    let d = and_parts (not (fault_of_request faults row.frame.0) && not (fault_of_buffer faults row.frame.0 t.stream.0)) (not row.request_error && not t.announced) c.0 in
    let e = and_parts (not row.request_error) (not t.announced) d.1 in
    record { out = filled_out t.state a.0; sound = not-true row.request_error e.0; untold = not-true t.announced e.1 }

pub failed_out : (row : RowView) (t : TargetView) → may_return_failed_row row t ≡ true → is_returned t.state ≡ false
failed_out row t h =
    let a = and_parts (row.request_error || t.announced) (not (is_sensor_out row.sensor) && (is_same_state t.state Waiting || is_same_state t.state Filled)) h in
    let b = and_parts (not (is_sensor_out row.sensor)) (is_same_state t.state Waiting || is_same_state t.state Filled) a.1 in
    by (is_same_state t.state Waiting) refl b.1
  where
    by : (x : Bool) → is_same_state t.state Waiting ≡ x → (x || is_same_state t.state Filled) ≡ true → is_returned t.state ≡ false
    by true is g = waiting_out t.state is
    by false is g = filled_out t.state g
