-- A test of the rows asks of fences what the buffers say of them.
use Rattle.std.proofs.Common.{◌≡◌, ℕ, Bool, ◌&&◌, not, List, Option, Some, None, refl, ap, if◌then◌else◌}
use Rattle.std.specs.Option.{option_map}
use Rattle.cam_types.specs.declared.script.Fault.{Fault}
use Rattle.cam_types.specs.declared.number.FenceNo.{FenceNo}
use Rattle.cam_types.specs.declared.row.RowView.{RowView}
use Rattle.cam_types.specs.declared.row.TargetState.TheVariants.{Waiting}
use Rattle.cam_types.specs.declared.row.TargetView.{TargetView}
use Rattle.trace_model.specs.declared.entry.Entry.TheVariants.{Failed}
use Rattle.device_rows.specs.Ready.{is_fill_ready, is_home, is_passed, is_sound, is_same_state, may_fill, passes_at, target_passes}
use Rattle.device_rows.specs.Rows.{row_at, target_at}
use Rattle.run_rows.specs.Entries.{failed_entry}

module _ (f g : ℕ → Bool) (same : (i : ℕ) → f i ≡ g i) where
  passed-same : (o : Option FenceNo) → is_passed f o ≡ is_passed g o
  passed-same None = refl
  passed-same (Some d) = same d.0

  fill-same : (faults : List Fault) (row : RowView) (o : Option TargetView) → passes_at (may_fill faults f row) o ≡ passes_at (may_fill faults g row) o
  fill-same faults row None = refl
  fill-same faults row (Some t) = ap (λ b. (is_sound faults row t && is_same_state t.state Waiting) && (is_home row.sensor && b)) (passed-same t.fence)

  at-row : (faults : List Fault) (s : ℕ) (o : Option RowView) → target_passes (may_fill faults f) s o ≡ target_passes (may_fill faults g) s o
  at-row faults s None = refl
  at-row faults s (Some row) = fill-same faults row (target_at s row)

  pub fill-ready-same : (faults : List Fault) (rows : List RowView) (n s : ℕ) → is_fill_ready faults f rows n s ≡ is_fill_ready faults g rows n s
  fill-ready-same faults rows n s = at-row faults s (row_at n rows)

  pub failed-same : (n s : ℕ) (o : Option TargetView) → option_map (failed_entry f n s) o ≡ option_map (failed_entry g n s) o
  failed-same n s None = refl
  failed-same n s (Some t) =
      ap (λ b. Some (Failed (record { 0 = n }) (record { 0 = s }) t.buffer (if is_same_state t.state Waiting && not b then t.fence else None))) (passed-same t.fence)
