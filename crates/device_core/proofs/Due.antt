-- The frame that the sensor takes next is dark, and the error that is due is timely.
use Rattle.std.proofs.Common.{◌≡◌, ℕ, Bool, true, false, ◌&&◌, ◌||◌, not, if◌then◌else◌, is_some, List, Option, Some, None, refl, ◌∙◌, ap, inl, inr}
use Rattle.std.specs.Option.{option_map}
use Rattle.std.proofs.lemmas.Bool.{and_parts, cases_Bool, eqb-true}
use Rattle.cam_types.specs.declared.four.Four.{Four}
use Rattle.cam_types.specs.declared.row.RowFaults.{RowFaults}
use Rattle.cam_types.specs.declared.row.RowVerdict.{RowVerdict}
use Rattle.cam_types.specs.declared.row.RowVerdict.TheVariants.{Request, Parts, Nothing}
use Rattle.cam_types.specs.declared.row.RowView.{RowView}
use Rattle.cam_types.specs.declared.script.Fault.{Fault}
use Rattle.device_rows.specs.Faults.{faults_of}
use Rattle.device_rows.specs.Ready.{error_of, fails_device_at, may_end_metadata, next_error, next_exposure}
use Rattle.device_rows.specs.Rows.{row_at}
use Rattle.device_core.proofs.Views.{found-own}
use Rattle.device_core.specs.Steps.{is_dark, is_timely}
use Rattle.device_rows.specs.Next.{least, lost_buffer, missing_streams, next_due}
use Rattle.device_rows.specs.declared.entry.ErrorEntry.{ErrorEntry}
use Rattle.device_rows.specs.declared.entry.ErrorEntry.TheVariants.{Request as LostRequest, Result as LostResult, Device}
use Rattle.device_rows.specs.Due.{fails_in_part, fails_whole, is_some_true, misses_metadata, missing_buffers, verdict_of}
use Rattle.basic_lemmas.proofs.Lists.{found-passes}

-- ---- the next exposure

pub dark_next : (rows : List RowView) (row : RowView) → next_exposure rows ≡ Some row → row_at row.frame.0 rows ≡ Some row → is_dark (row_at row.frame.0 rows) ≡ true
dark_next rows row next found = rw found (found-passes (λ v. not (is_some v.shutter) && not v.request_error) rows row next)

-- ---- the error that is due

verdict_in_part : (whole part missing : Bool) (m n : Bool) (b d : Four Bool) → (if whole then Request else (if part && missing then Parts m b else Nothing)) ≡ Parts n d → part ≡ true
verdict_in_part true part missing m n b d h = absurd (cc)
verdict_in_part false true missing m n b d h = refl
verdict_in_part false false missing m n b d h = absurd (cc)

-- parts are named as missing of an exposed frame alone
lit_in_part : (row : RowView) (faults : RowFaults) (m : Bool) (b : Four Bool) → verdict_of row faults ≡ Parts m b → is_some row.shutter ≡ true
lit_in_part row faults m b h =
    let part = verdict_in_part (fails_whole row faults) (fails_in_part row faults) (misses_metadata row faults || is_some_true (missing_buffers row faults)) (misses_metadata row faults) m (missing_buffers row faults) b h in
    let lit = and_parts (is_some row.shutter && not row.request_error) (not faults.request || row.stopped) part in
    (and_parts (is_some row.shutter) (not row.request_error) lit.0).0

timely_buffer : (rows : List RowView) (row : RowView) (s : Option ℕ) (error : ErrorEntry) → row_at row.frame.0 rows ≡ Some row → is_some row.shutter ≡ true → option_map (lost_buffer row.frame) s ≡ Some error → is_timely rows error ≡ true
timely_buffer rows row None error found lit h = absurd (cc)
timely_buffer rows row (Some s) error found lit h =
    let is : lost_buffer row.frame s ≡ error = cc in
    rw (← is, found) lit

timely_due : (rows : List RowView) (row : RowView) (verdict : RowVerdict) (may_end : Bool) (error : ErrorEntry) → row_at row.frame.0 rows ≡ Some row → ((m : Bool) (b : Four Bool) → verdict ≡ Parts m b → is_some row.shutter ≡ true) → next_due row verdict may_end ≡ Some error → is_timely rows error ≡ true
timely_due rows row Request may_end error found lit h = let is : LostRequest row.frame ≡ error = cc in rw (← is, found) refl
timely_due rows row (Parts true b) true error found lit h = let is : LostResult row.frame ≡ error = cc in rw (← is, found) refl
timely_due rows row (Parts true b) false error found lit h = timely_buffer rows row (least (missing_streams b row.targets)) error found (lit true b refl) h
timely_due rows row (Parts false b) may_end error found lit h = timely_buffer rows row (least (missing_streams b row.targets)) error found (lit false b refl) h
timely_due rows row Nothing may_end error found lit h = absurd (cc)

timely_of : (faults : List Fault) (rows : List RowView) (n : ℕ) (o : Option RowView) (error : ErrorEntry) → row_at n rows ≡ o → error_of faults rows o ≡ Some error → is_timely rows error ≡ true
timely_of faults rows n None error found h = absurd (cc)
timely_of faults rows n (Some row) error found h =
    let own : row.frame.0 ≡ n = eqb-true row.frame.0 n (found-own n rows row found) in
    let here : row_at row.frame.0 rows ≡ Some row = ap (λ k. row_at k rows) own ∙ found in
    timely_due rows row (verdict_of row (faults_of faults row)) (may_end_metadata rows row.frame.0) error here (lit_in_part row (faults_of faults row)) h

pub timely_next : (faults : List Fault) (rows : List RowView) (n : ℕ) (error : ErrorEntry) → next_error faults rows n ≡ Some error → is_timely rows error ≡ true
timely_next faults rows n error h =
    elim (cases_Bool (fails_device_at faults rows n)) [
      | inl at ↦ (
          let h' = rw at at h in
          let is : Device ≡ error = cc in
          rw (← is) refl
          )
      | inr other ↦ (let h' = rw other at h in timely_of faults rows n (row_at n rows) error refl h')
    ]
