-- There is room for the fence of a release and of an early return, and the next shutter's time fits.
use Rattle.std.proofs.Common.{◌≡◌, ◌<◌, ◌^◌, ℕ, ◌+◌, true, Some, sym, ap, ◌∙◌, length, max}
use Rattle.std.specs.List.{list_all}
use Rattle.cam_types.specs.Limits.{frame_time}
use Rattle.cam_types.specs.declared.number.BufferId.{BufferId}
use Rattle.cam_types.specs.declared.number.DeviceFenceNo.{DeviceFenceNo}
use Rattle.cam_types.specs.declared.number.FenceNo.{FenceNo}
use Rattle.cam_types.specs.declared.number.FrameNo.{FrameNo}
use Rattle.cam_types.specs.declared.number.StreamIx.{StreamIx}
use Rattle.cam_types.specs.declared.row.RowView.{RowView}
use Rattle.cam_types.specs.declared.row.TargetView.{TargetView}
use Rattle.trace_laws.specs.Bounds.{early_bound, fence_bound}
use Rattle.trace_model.specs.declared.entry.Entry.TheVariants.{Early as EarlyEntry, Release as ReleaseEntry, Shutter as ShutterEntry}
use Rattle.trace_model.specs.Shutter.{next_time}
use Rattle.run_model.specs.declared.step.StepName.TheVariants.{Early, Release, Shutter}
use Rattle.run_model.specs.History.{trace_of}
use Rattle.run_model.specs.Rows.{rows}
use Rattle.state_facts.specs.Homes.{homes}
use Rattle.device_rows.specs.Kept as fences
use Rattle.device_rows.specs.Kept.{have_made_fences}
use Rattle.device_rows.specs.Rows.{row_at, target_in}
use Rattle.run_rows.specs.Kept.{has_given_fences}
use Rattle.run_rows.proofs.Given.{fences_is}
use Rattle.state_facts.proofs.BufferReadings.{fences_are}
use Rattle.state_facts.proofs.Fits.{numbers_fit}
use Rattle.service_parts.specs.Facts.{IsPlaced}
use Rattle.service_parts.proofs.Given.{fences_given}
use Rattle.service_parts.proofs.Placed.{targets_placed}
use Rattle.service_parts.proofs.Room.{earlies_fit, fences_fit}
use Rattle.service_parts.specs.After.{parts_after}
use Rattle.service_parts.specs.Moves.{move_by, settings_at}
use Rattle.service_state.specs.Answers.{move_with}
use Rattle.service_state.specs.Serving.{IsServing, Serving}
use Rattle.service_state.proofs.Shown.{waiters_made}
use Rattle.service_state.proofs.Runs.{legal_left, legal_next, next_left, rows_left}

pub release_has_room : (s : Serving) → IsServing s → (b : BufferId) (f : FenceNo) → move_by s.script s.parts (Release b) ≡ Some (move_with (Release b) (Some (ReleaseEntry b f))) → length s.parts.buffers.signalled < fence_bound s.script
release_has_room s serving b f ready =
    let r = serving.run in
    rw (ap (λ p. p.buffers) r.left) (fences_fit s.script (trace_of r.history) b f (legal_next s.script s.parts r (move_with (Release b) (Some (ReleaseEntry b f))) ready))

pub early_has_room : (s : Serving) → IsServing s → (n : FrameNo) (t : StreamIx) (b : BufferId) (d : DeviceFenceNo) → move_by s.script s.parts (Early n t) ≡ Some (move_with (Early n t) (Some (EarlyEntry n t b d))) → length s.parts.buffers.late < early_bound s.script
early_has_room s serving n t b d ready =
    let r = serving.run in
    rw (ap (λ p. p.buffers) r.left) (earlies_fit s.script (trace_of r.history) n t b d (legal_next s.script s.parts r (move_with (Early n t) (Some (EarlyEntry n t b d))) ready))

-- the time after a shutter fits
pub clock_fits : (s : Serving) → IsServing s → (row : RowView) → move_by s.script s.parts Shutter ≡ Some (move_with Shutter (Some (ShutterEntry row.frame s.parts.clock))) → s.parts.clock + max frame_time (settings_at (row_at row.frame.0 s.parts.rows)).exposure < 2 ^ 64
clock_fits s serving row ready =
    let m = move_with Shutter (Some (ShutterEntry row.frame s.parts.clock)) in
    let r = next_left s.script s.parts serving.run m ready in
    let fit = (numbers_fit s.script (trace_of r.history) serving.typed serving.valid (legal_left s.script (parts_after s.script m s.parts) r)).clock in
    let same : s.parts.clock + max frame_time (settings_at (row_at row.frame.0 s.parts.rows)).exposure ≡ next_time s.script (trace_of r.history) = ap (λ p. p.clock) r.left in
    rw same fit

-- each fence at home was made
pub home_given : (s : Serving) → IsServing s → list_all (fences.is_made (length s.parts.buffers.signalled)) s.parts.buffers.fences ≡ true
home_given s serving =
    let r = serving.run in
    rw (ap (λ p. p.buffers) r.left) (fences_given s.script (trace_of r.history) (legal_left s.script s.parts r))

-- where the buffer of a row's target is
pub placed : (s : Serving) → IsServing s → (n t : ℕ) (target : TargetView) → target_in n t s.parts.rows ≡ Some target → IsPlaced s.parts.buffers t target
placed s serving n t target at =
    let r = serving.run in
    let found : target_in n t (rows s.script r.history) ≡ Some target = ap (λ xs. target_in n t xs) (sym (rows_left s.script s.parts r)) ∙ at in
    rw (ap (λ p. p.buffers) r.left) (targets_placed s.script r.history r.run n t target found)

-- and each fence of a buffer that waits
pub rows_given : (s : Serving) → IsServing s → list_all (have_made_fences (length s.parts.buffers.signalled)) s.parts.rows ≡ true
rows_given s serving =
    let r = serving.run in
    let past = trace_of r.history in
    let given : list_all (has_given_fences (length (homes past).signalled)) (rows s.script r.history) ≡ true = rw (sym (fences_are past)) (fences_is s.script r.history r.run) in
    let made = waiters_made (length (homes past).signalled) (rows s.script r.history) given in
    rw (ap (λ p. p.buffers) r.left, rows_left s.script s.parts r) made
