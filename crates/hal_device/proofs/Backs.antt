-- The failed buffer that comes back has no waiter, and its block is whole.
use Rattle.std.proofs.Common.{◌≡◌, ℕ, Bool, true, false, ◌&&◌, not, is_none, List, Option, Some, None, refl, ◌∙◌, ◌==◌}
use Rattle.std.specs.Prelude.{slice_get}
use Rattle.std.specs.List.{list_all}
use Rattle.std.proofs.lemmas.Bool.{and_parts, false≢true}
use Rattle.buffer_pool.specs.declared.parked.Parked.{Parked}
use Rattle.cam_types.specs.Four.{four_list}
use Rattle.cam_types.specs.declared.number.FenceNo.{FenceNo}
use Rattle.cam_types.specs.declared.row.RowView.{RowView}
use Rattle.cam_types.specs.declared.row.TargetState.TheVariants.{Waiting}
use Rattle.cam_types.specs.declared.row.TargetView.{TargetView}
use Rattle.cam_types.specs.declared.stream.StreamSpec.{StreamSpec}
use Rattle.device_rows.specs.Jobs.{is_fill_out}
use Rattle.device_rows.specs.Ready.{is_sensor_out, is_same_state}
use Rattle.device_rows.specs.Rows.{row_at, target_at}
use Rattle.device_core.proofs.General.{find-passes}
use Rattle.device_core.specs.Steps.{IsBackAt, IsBackRow, IsBackTarget, waiter_left}
use Rattle.buffer_pool.specs.Fences.{FencesMade}
use Rattle.hal_device.specs.Kept.{IsBlockAt, rests, rests_at}
use Rattle.hal_device.proofs.Fours.{all-four}

no-fence : (o : Option FenceNo) → is_none o ≡ true → o ≡ None
no-fence None h = refl
no-fence (Some f) h = absurd (false≢true h)

target-free : (row : RowView) (s : ℕ) (t : TargetView) → rests row ≡ true → target_at s row ≡ Some t → t.fence ≡ None
target-free row s t h at =
    let parts = and_parts (not (is_sensor_out row.sensor)) ((rests_at row.targets.a && rests_at row.targets.b) && (rests_at row.targets.c && rests_at row.targets.d)) h in
    let all = all-four rests_at (λ (u : TargetView). is_none u.fence) (λ u r. (and_parts (not (is_fill_out u.state)) (is_none u.fence) r).1) row.targets.a row.targets.b row.targets.c row.targets.d parts.1 in
    no-fence t.fence (find-passes (λ (u : TargetView). u.stream.0 == s) (λ (u : TargetView). is_none u.fence) (four_list row.targets) t all at)

free-waiter : (fences : FencesMade) (t : TargetView) (b : Bool) → is_same_state t.state Waiting ≡ b → t.fence ≡ None → waiter_left fences t ≡ None
free-waiter fences t true is free = rw (is, free) refl
free-waiter fences t false is free = rw is refl

-- what comes back
pub record IsFree (specs : List StreamSpec) (n s : ℕ) (rows : List RowView) (parked : Parked) : Type 0 where
  pub waiter : parked.waiter ≡ None
  pub block : IsBlockAt specs n s rows parked.pixels.id parked.pixels.block

pub back_free : (fences : FencesMade) (specs : List StreamSpec) (n s : ℕ) (rows : List RowView) (parked : Parked) → list_all rests rows ≡ true → IsBackAt fences specs n s rows parked → IsFree specs n s rows parked
back_free fences specs n s rows parked all h = by-row (row_at n rows) refl h
  where
    by-spec : (row : RowView) (t : TargetView) (o : Option StreamSpec) → row_at n rows ≡ Some row → target_at s row ≡ Some t → slice_get specs s ≡ o → IsBackTarget fences (Some t) o parked → IsFree specs n s rows parked
    by-spec row t (Some spec) found at stream h' =
        let free = target-free row s t (find-passes (λ (r : RowView). r.frame.0 == n) rests rows row all found) at in
        record {
          waiter = h'.waiter ∙ free-waiter fences t (is_same_state t.state Waiting) refl free;
          block = rw (found, at, stream) (h'.pixels.id, h'.pixels.block);
        }
    by-spec row t None found at stream h' = absurd h'

    by-target : (row : RowView) (o : Option TargetView) → row_at n rows ≡ Some row → target_at s row ≡ o → IsBackTarget fences o (slice_get specs s) parked → IsFree specs n s rows parked
    by-target row (Some t) found at h' = by-spec row t (slice_get specs s) found at refl h'
    by-target row None found at h' = absurd h'

    by-row : (o : Option RowView) → row_at n rows ≡ o → IsBackRow fences specs s o parked → IsFree specs n s rows parked
    by-row (Some row) found h' = by-target row (target_at s row) found refl h'
    by-row None found h' = absurd h'
