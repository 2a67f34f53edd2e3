-- Rows with no job out stay so.
use Rattle.std.proofs.Common.{◌≡◌, ℕ, ◌==◌, Bool, true, false, ◌&&◌, ◌||◌, not, is_none, List, [], ◌∷◌, Option, Some, None, refl, ap, ◌∙◌, inl, inr, arith}
use Rattle.std.specs.List.{list_all}
use Rattle.std.proofs.lemmas.Bool.{and_parts, cases_Bool}
use Rattle.basic_lemmas.proofs.Lists.{all-filtered, all-mapped, all-where}
use Rattle.cam_types.specs.Four.{four_list}
use Rattle.hal_device.proofs.Fours.{all-four, none-passes}
use Rattle.cam_types.specs.declared.number.StreamIx.{StreamIx}
use Rattle.cam_types.specs.declared.row.RowView.{RowView}
use Rattle.cam_types.specs.declared.row.TargetState.{TargetState}
use Rattle.cam_types.specs.declared.row.TargetState.TheVariants.{Out, ReturnedOk, ReturnedFailed}
use Rattle.cam_types.specs.declared.row.TargetView.{TargetView}
use Rattle.device_rows.specs.Jobs.{has_job_out, is_fill_out}
use Rattle.device_rows.specs.Kept.{has_made_fence, have_made_fences}
use Rattle.device_rows.specs.Ready.{is_sensor_out}
use Rattle.device_core.specs.View.{DeviceView, with_rows}
use Rattle.device_rows.specs.Rows.{all_stopped, delivered, exposed, fill_begun, fill_ended, filled_after, returned_failed, sensor_home, target_at, with_error, with_part, with_row, without}
use Rattle.device_rows.specs.declared.entry.ErrorEntry.{ErrorEntry}
use Rattle.device_rows.specs.declared.entry.ErrorEntry.TheVariants.{Request as LostRequest, Result as LostResult, Buffer as LostBuffer, Device as LostDevice}
use Rattle.device_rows.specs.declared.mark.Mark.TheVariants.{Announced, RequestError, ResultError, Stopped, Target}
use Rattle.device_rows.specs.Marks.{if_of_stream, in_state, as_announced, marked}
use Rattle.hal_device.specs.Kept.{rests, rests_at}
use Rattle.device_core.proofs.Moves.{filled-from-in}
use Rattle.hal_device_model.proofs.Whole.{changed_twice}

-- ---- what a row that rests meets

job-free : (row : RowView) → rests row ≡ true → not (has_job_out row) ≡ true
job-free row h =
    let parts = and_parts (not (is_sensor_out row.sensor)) ((rests_at row.targets.a && rests_at row.targets.b) && (rests_at row.targets.c && rests_at row.targets.d)) h in
    let none = none-passes (λ (t : TargetView). is_fill_out t.state) (four_list row.targets) (all-four rests_at (λ (t : TargetView). not (is_fill_out t.state)) (λ t r. (and_parts (not (is_fill_out t.state)) (is_none t.fence) r).0) row.targets.a row.targets.b row.targets.c row.targets.d parts.1) in
    rw none (by (is_sensor_out row.sensor) parts.0)
  where
    by : (x : Bool) → not x ≡ true → not (x || false) ≡ true
    by true n = n
    by false n = n

pub jobs_free : (rows : List RowView) → list_all rests rows ≡ true → list_all (λ row. not (has_job_out row)) rows ≡ true
jobs_free rows h = all-where rests (λ row. not (has_job_out row)) rows job-free h

made-one : (t : TargetView) → rests_at (Some t) ≡ true → has_made_fence 0 t ≡ true
made-one t h = grind arith

made-row : (row : RowView) → rests row ≡ true → have_made_fences 0 row ≡ true
made-row row h =
    let parts = and_parts (not (is_sensor_out row.sensor)) ((rests_at row.targets.a && rests_at row.targets.b) && (rests_at row.targets.c && rests_at row.targets.d)) h in
    all-four rests_at (has_made_fence 0) made-one row.targets.a row.targets.b row.targets.c row.targets.d parts.1

pub fences_made : (rows : List RowView) → list_all rests rows ≡ true → list_all (have_made_fences 0) rows ≡ true
fences_made rows h = all-where rests (have_made_fences 0) rows made-row h

-- ---- what leaves a row at rest

at-changed : (change : TargetView → TargetView) (s : ℕ) (o : Option TargetView) → ((t : TargetView) → rests_at (Some t) ≡ true → rests_at (Some (change t)) ≡ true) → rests_at o ≡ true → rests_at (if_of_stream s change o) ≡ true
at-changed change s None keeps h = refl
at-changed change s (Some t) keeps h =
    elim (cases_Bool (t.stream.0 == s)) [
      | inl here ↦ rw here (keeps t h)
      | inr other ↦ rw other h
    ]

-- the four places
places : (a b c d a' b' c' d' : Option TargetView) → (rests_at a ≡ true → rests_at a' ≡ true) → (rests_at b ≡ true → rests_at b' ≡ true) → (rests_at c ≡ true → rests_at c' ≡ true) → (rests_at d ≡ true → rests_at d' ≡ true) → ((rests_at a && rests_at b) && (rests_at c && rests_at d)) ≡ true → ((rests_at a' && rests_at b') && (rests_at c' && rests_at d')) ≡ true
places a b c d a' b' c' d' ka kb kc kd h =
    let l = and_parts (rests_at a && rests_at b) (rests_at c && rests_at d) h in
    let u = and_parts (rests_at a) (rests_at b) l.0 in
    let v = and_parts (rests_at c) (rests_at d) l.1 in
    rw (ka u.0, kb u.1, kc v.0, kd v.1) refl

-- a change of the targets of one stream
pub targets_changed : (change : TargetView → TargetView) (s : ℕ) (row new : RowView) → ((t : TargetView) → rests_at (Some t) ≡ true → rests_at (Some (change t)) ≡ true) → new.sensor ≡ row.sensor → new.targets.a ≡ if_of_stream s change row.targets.a → new.targets.b ≡ if_of_stream s change row.targets.b → new.targets.c ≡ if_of_stream s change row.targets.c → new.targets.d ≡ if_of_stream s change row.targets.d → rests row ≡ true → rests new ≡ true
targets_changed change s row new keeps place a b c d h =
    let parts = and_parts (not (is_sensor_out row.sensor)) ((rests_at row.targets.a && rests_at row.targets.b) && (rests_at row.targets.c && rests_at row.targets.d)) h in
    let rest = places row.targets.a row.targets.b row.targets.c row.targets.d (if_of_stream s change row.targets.a) (if_of_stream s change row.targets.b) (if_of_stream s change row.targets.c) (if_of_stream s change row.targets.d) (at-changed change s row.targets.a keeps) (at-changed change s row.targets.b keeps) (at-changed change s row.targets.c keeps) (at-changed change s row.targets.d keeps) parts.1 in
    rw (place, a, b, c, d, parts.0) rest

-- ---- all rows

pub changed_rests : (n : ℕ) (change : RowView → RowView) (rows : List RowView) → ((row : RowView) → rests row ≡ true → rests (change row) ≡ true) → list_all rests rows ≡ true → list_all rests (with_row n change rows) ≡ true
changed_rests n change [] keeps h = refl
changed_rests n change (row ∷ rows) keeps h =
    let parts = and_parts (rests row) (list_all rests rows) h in
    let ih = changed_rests n change rows keeps parts.1 in
    elim (cases_Bool (row.frame.0 == n)) [
      | inl here ↦ rw (here, keeps row parts.0) ih
      | inr other ↦ rw (other, parts.0) ih
    ]

-- ---- each step

in-state : (st : TargetState) → is_fill_out st ≡ false → (t : TargetView) → rests_at (Some t) ≡ true → rests_at (Some (in_state st t)) ≡ true
in-state st no' t h = rw (no', (and_parts (not (is_fill_out t.state)) (is_none t.fence) h).1) refl

marked-target : (s : StreamIx) (st : TargetState) (row : RowView) → is_fill_out st ≡ false → rests row ≡ true → rests (marked (Target s st) row) ≡ true
marked-target s st row no' h = targets_changed (in_state st) s.0 row (marked (Target s st) row) (in-state st no') refl refl refl refl refl h

pub delivered_rests : (n : ℕ) (s : StreamIx) (rows : List RowView) → list_all rests rows ≡ true → list_all rests (with_row n (delivered s) rows) ≡ true
delivered_rests n s rows h = changed_rests n (delivered s) rows (λ row. marked-target s ReturnedOk row refl) h

pub failed_rests : (n : ℕ) (s : StreamIx) (rows : List RowView) → list_all rests rows ≡ true → list_all rests (with_row n (returned_failed s) rows) ≡ true
failed_rests n s rows h = changed_rests n (returned_failed s) rows (λ row. marked-target s ReturnedFailed row refl) h

pub part_rests : (n k : ℕ) (rows : List RowView) → list_all rests rows ≡ true → list_all rests (with_row n (with_part k) rows) ≡ true
part_rests n k rows h = changed_rests n (with_part k) rows (λ row r. r) h

pub stopped_rests : (rows : List RowView) → list_all rests rows ≡ true → list_all rests (all_stopped rows) ≡ true
stopped_rests rows h = all-mapped rests (marked Stopped) rows ∙ h

announced-rests : (s : StreamIx) (row : RowView) → rests row ≡ true → rests (marked (Announced s) row) ≡ true
announced-rests s row h = targets_changed as_announced s.0 row (marked (Announced s) row) (λ t r. r) refl refl refl refl refl h

pub error_rests : (error : ErrorEntry) (rows : List RowView) → list_all rests rows ≡ true → list_all rests (with_error error rows) ≡ true
error_rests (LostRequest n) rows h = changed_rests n.0 (marked RequestError) rows (λ row r. r) h
error_rests (LostResult n) rows h = changed_rests n.0 (marked ResultError) rows (λ row r. r) h
error_rests (LostBuffer n s) rows h = changed_rests n.0 (marked (Announced s)) rows (announced-rests s) h
error_rests LostDevice rows h = stopped_rests rows h

pub exposed_rests : (n time : ℕ) (rows : List RowView) → list_all rests rows ≡ true → list_all rests (with_row n sensor_home (with_row n (exposed time) rows)) ≡ true
exposed_rests n time rows h =
    rw (changed_twice n sensor_home (exposed time) rows (λ row. refl)) (changed_rests n (λ row. sensor_home (exposed time row)) rows home h)
  where
    home : (row : RowView) → rests row ≡ true → rests (sensor_home (exposed time row)) ≡ true
    home row r = (and_parts (not (is_sensor_out row.sensor)) ((rests_at row.targets.a && rests_at row.targets.b) && (rests_at row.targets.c && rests_at row.targets.d)) r).1

not-out-after : (o : Option TargetView) → is_fill_out (filled_after o) ≡ false
not-out-after (Some t) = filled-from-in t.state
not-out-after None = refl

filled-at : (s : ℕ) (st : TargetState) (o : Option TargetView) → is_fill_out st ≡ false → rests_at o ≡ true → rests_at (if_of_stream s (in_state st) (if_of_stream s (in_state Out) o)) ≡ true
filled-at s st None no' h = refl
filled-at s st (Some t) no' h =
    elim (cases_Bool (t.stream.0 == s)) [
      | inl here ↦ rw (here, here) (in-state st no' t h)
      | inr other ↦ rw (other, other) h
    ]

pub filled_rests : (n : ℕ) (s : StreamIx) (rows : List RowView) → list_all rests rows ≡ true → list_all rests (with_row n (fill_ended s) (with_row n (fill_begun s) rows)) ≡ true
filled_rests n s rows h =
    rw (changed_twice n (fill_ended s) (fill_begun s) rows (λ row. refl)) (changed_rests n (λ row. fill_ended s (fill_begun s row)) rows full h)
  where
    full : (row : RowView) → rests row ≡ true → rests (fill_ended s (fill_begun s row)) ≡ true
    full row r =
        let parts = and_parts (not (is_sensor_out row.sensor)) ((rests_at row.targets.a && rests_at row.targets.b) && (rests_at row.targets.c && rests_at row.targets.d)) r in
        let st = filled_after (target_at s.0 (fill_begun s row)) in
        let no' = not-out-after (target_at s.0 (fill_begun s row)) in
        places row.targets.a row.targets.b row.targets.c row.targets.d (if_of_stream s.0 (in_state st) (if_of_stream s.0 (in_state Out) row.targets.a)) (if_of_stream s.0 (in_state st) (if_of_stream s.0 (in_state Out) row.targets.b)) (if_of_stream s.0 (in_state st) (if_of_stream s.0 (in_state Out) row.targets.c)) (if_of_stream s.0 (in_state st) (if_of_stream s.0 (in_state Out) row.targets.d)) (filled-at s.0 st row.targets.a no') (filled-at s.0 st row.targets.b no') (filled-at s.0 st row.targets.c no') (filled-at s.0 st row.targets.d no') parts.1

pub retired_rests : (b : Bool) (old new : DeviceView) (n : ℕ) → (b ≡ true → new ≡ with_rows (without n old.rows) old) → (b ≡ false → new ≡ old) → list_all rests old.rows ≡ true → list_all rests new.rows ≡ true
retired_rests true old new n rows same h = rw (rows refl) (all-filtered rests (λ row. not (row.frame.0 == n)) old.rows h)
retired_rests false old new n rows same h = rw (same refl) h

-- ---- nothing is ready where no answer comes

pub not_ready : (b : Bool) → (b ≡ true → false ≡ true) → false ≡ b
not_ready true h = h refl
not_ready false h = refl
