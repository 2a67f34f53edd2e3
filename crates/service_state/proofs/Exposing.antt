-- The exposure that begins is of the row that the rows name.
use Rattle.std.proofs.Common.{◌≡◌, ℕ, ◌==◌, Bool, true, false, List, [], ◌∷◌, Option, Some, None, refl, ap}
use Rattle.std.specs.Option.{option_map}
use Rattle.cam_types.specs.declared.job.JobView.{JobView}
use Rattle.cam_types.specs.declared.row.RowView.{RowView}
use Rattle.cam_types.specs.declared.script.Fault.{Fault}
use Rattle.device_rows.specs.Jobs.{sensor_job}
use Rattle.device_rows.specs.Ready.{shutter_row}
use Rattle.device_rows.specs.Rows.{exposed, row_at, with_row}
use Rattle.service_parts.specs.Moves.{settings_at}

pub row_of_job : (faults : List Fault) (rows : List RowView) (job : JobView) → Some job ≡ option_map sensor_job (shutter_row faults rows) → (row : RowView) × (shutter_row faults rows ≡ Some row) × (job.frame ≡ row.frame)
row_of_job faults rows job at = by (shutter_row faults rows) refl at
  where
    by : (o : Option RowView) → shutter_row faults rows ≡ o → Some job ≡ option_map sensor_job o → (row : RowView) × (shutter_row faults rows ≡ Some row) × (job.frame ≡ row.frame)
    by (Some row) is same = let k : job ≡ sensor_job row = cc in (row, is, ap (λ (j : JobView). j.frame) k)
    by None is same = absurd (cc)

-- a shutter leaves the settings of the row
pub exposure_same : (n time : ℕ) (rows : List RowView) → settings_at (row_at n (with_row n (exposed time) rows)) ≡ settings_at (row_at n rows)
exposure_same n time [] = refl
exposure_same n time (row ∷ rows) = by (row.frame.0 == n) refl (exposure_same n time rows)
  where
    by : (b : Bool) → (row.frame.0 == n) ≡ b → settings_at (row_at n (with_row n (exposed time) rows)) ≡ settings_at (row_at n rows) → settings_at (row_at n (with_row n (exposed time) (row ∷ rows))) ≡ settings_at (row_at n (row ∷ rows))
    by true here rest = rw here (rw here refl)
    by false other rest = rw other (rw other rest)
