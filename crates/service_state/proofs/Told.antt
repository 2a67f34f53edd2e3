-- An error that is due at a frame is the device's or that frame's.
use Rattle.std.specs.Option.{option_map}
use Rattle.std.proofs.Common.{◌≡◌, ◌&&◌, ℕ, Bool, true, false, List, Option, Some, None, refl, sym, ap, if◌then◌else◌}
use Rattle.cam_types.specs.declared.number.FrameNo.{FrameNo}
use Rattle.cam_types.specs.declared.row.RowView.{RowView}
use Rattle.cam_types.specs.declared.script.Fault.{Fault}
use Rattle.device_rows.specs.declared.entry.ErrorEntry.{ErrorEntry}
use Rattle.device_rows.specs.declared.entry.ErrorEntry.TheVariants.{Request, Result, Buffer, Device}
use Rattle.cam_types.specs.declared.row.RowVerdict.{RowVerdict}
use Rattle.cam_types.specs.declared.row.RowVerdict.TheVariants as verdict
use Rattle.device_rows.specs.Next.{least, lost_buffer, missing_streams, next_due}
use Rattle.device_rows.specs.Due.{verdict_of}
use Rattle.device_rows.specs.Faults.{faults_of}
use Rattle.device_rows.specs.Ready.{error_of as error_in, fails_device_at, may_end_metadata, next_error}
use Rattle.service_state.proofs.Shown.{found-frame}
use Rattle.device_rows.specs.Rows.{row_at, with_error, with_row}
use Rattle.service_state.proofs.FrameSteps.{IsErrorOf, error_change}

same : {n : FrameNo} (m : FrameNo) → m.0 ≡ n.0 → m ≡ n
same {n} m e = (let k : record { 0 = m.0 } ≡ record { 0 = n.0 } = ap (λ (j : ℕ). let g : FrameNo = record { 0 = j } in g) e in k)

pub error_of : (faults : List Fault) (rows : List RowView) (n : FrameNo) (error : ErrorEntry) → next_error faults rows n.0 ≡ Some error → (error ≡ Device → ⊥) → IsErrorOf n error
error_of faults rows n error at other = by-device (fails_device_at faults rows n.0) at
  where
    of-row : (row : RowView) → row.frame.0 ≡ n.0 → (v : RowVerdict) (b : Bool) → next_due row v b ≡ Some error → IsErrorOf n error
    of-row row here verdict.Request b e = (let k : Request row.frame ≡ error = cc in rw (sym k) (same row.frame here))
    of-row row here (verdict.Parts metadata buffers) b e = by-part (metadata && b) (least (missing_streams buffers row.targets)) e
      where
        by-part : (t : Bool) (o : Option ℕ) → (if t then Some (Result row.frame) else option_map (lost_buffer row.frame) o) ≡ Some error → IsErrorOf n error
        by-part true o e' = (let k : Result row.frame ≡ error = cc in rw (sym k) (same row.frame here))
        by-part false (Some t) e' = (let k : Buffer row.frame (record { 0 = t }) ≡ error = cc in rw (sym k) (same row.frame here))
        by-part false None e' = absurd (cc)
    of-row row here verdict.Nothing b e = absurd (cc)

    by-row : (o : Option RowView) → row_at n.0 rows ≡ o → (if false then Some Device else error_in faults rows o) ≡ Some error → IsErrorOf n error
    by-row (Some row) found e = of-row row (found-frame n.0 rows row found) (verdict_of row (faults_of faults row)) (may_end_metadata rows row.frame.0) e
    by-row None found e = absurd (cc)

    by-device : (b : Bool) → (if b then Some Device else error_in faults rows (row_at n.0 rows)) ≡ Some error → IsErrorOf n error
    by-device true e = absurd (other (let k : Device ≡ error = cc in sym k))
    by-device false e = by-row (row_at n.0 rows) refl e

pub error_rows : (n : FrameNo) (error : ErrorEntry) (rows : List RowView) → IsErrorOf n error → with_error error rows ≡ with_row n.0 (error_change error) rows
error_rows n (Request m) rows of = rw of refl
error_rows n (Result m) rows of = rw of refl
error_rows n (Buffer m t) rows of = rw of refl
error_rows n Device rows of = absurd of
