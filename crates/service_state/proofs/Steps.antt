-- Each step that ends no frame: when it is ready, and what it leaves.
use Rattle.std.proofs.Common.{◌≡◌, ℕ, ◌+◌, true, false, ◌&&◌, not, Some, None, refl, sym, ap, length, max, nat_lt, slice_index_or}
use Rattle.cam_types.specs.Limits.{frame_time}
use Rattle.cam_types.specs.declared.number.BufferId.{BufferId}
use Rattle.cam_types.specs.declared.number.DeviceFenceNo.{DeviceFenceNo}
use Rattle.cam_types.specs.declared.number.FenceNo.{FenceNo}
use Rattle.cam_types.specs.declared.number.FrameNo.{FrameNo}
use Rattle.cam_types.specs.declared.number.StreamIx.{StreamIx}
use Rattle.cam_types.specs.declared.job.JobView.{JobView}
use Rattle.cam_types.specs.declared.row.RowView.{RowView}
use Rattle.cam_types.specs.declared.row.TargetView.{TargetView}
use Rattle.cam_types.specs.declared.request.WaitingItem.{WaitingItem}
use Rattle.trace_model.specs.declared.entry.Entry.TheVariants.{Dropped, Early as EarlyEntry, Release as ReleaseEntry, Shutter as ShutterEntry, Signal as SignalEntry}
use Rattle.trace_model.specs.Place.{Client, is_at}
use Rattle.trace_model.specs.Queue.{first_in}
use Rattle.run_model.specs.declared.step.StepName.TheVariants.{DropQueued, Early, FillDone, Release, SensorDone, Shutter, Signal, TakeFill}
use Rattle.state_facts.specs.Turns as queue
use Rattle.state_facts.specs.Homes.{held_in, place_in, signalled_in, there_in}
use Rattle.state_facts.specs.Homes as buffers
use Rattle.state_facts.specs.Replies.{stopping_in}
use Rattle.device_rows.specs.Jobs.{fill_job_at, sensor_job_at}
use Rattle.device_rows.specs.Ready.{is_early_ready, is_fill_ready, shutter_row}
use Rattle.device_rows.specs.Rows.{exposed, fill_begun, fill_ended, gone_early, row_at, sensor_home, target_in, with_row}
use Rattle.service_parts.specs.After.{showing}
use Rattle.service_parts.specs.Moves.{move_by, settings_at}
use Rattle.service_state.specs.Answers.{Makes, move_with}
use Rattle.service_state.specs.Serving.{IsServing, Serving}
use Rattle.service_state.proofs.Made.{makes, same_parts}
use Rattle.service_state.proofs.Runs.{whole_left}

-- ---- releases and signals

pub released : (s : Serving) → IsServing s → (b : BufferId) → (is_at (place_in s.parts.buffers b.0) Client && there_in s.parts.buffers (held_in s.parts.buffers b.0)) ≡ true → (f : FenceNo) → f.0 ≡ length s.parts.buffers.signalled → Makes s (record { script = s.script; parts = record s.parts { buffers = buffers.homes_after (ReleaseEntry b f) s.parts.buffers; pictures = showing s.parts b.0 None } }) (move_with (Release b) (Some (ReleaseEntry b f)))
released s serving b may f next =
    let fence : f ≡ record { 0 = length s.parts.buffers.signalled } = ap (λ (k : ℕ). let g : FenceNo = record { 0 = k } in g) next in
    let m = move_with (Release b) (Some (ReleaseEntry b f)) in
    let ready : move_by s.script s.parts (Release b) ≡ Some m = rw (may, fence) refl in
    makes s (record s.parts { buffers = buffers.homes_after (ReleaseEntry b f) s.parts.buffers; pictures = showing s.parts b.0 None }) m ready
    (same_parts _ _ refl refl refl refl refl (sym (whole_left s.script s.parts serving.run m ready refl)) refl refl)

pub signalled : (s : Serving) → IsServing s → (f : FenceNo) → (nat_lt f.0 (length s.parts.buffers.signalled) && not (slice_index_or s.parts.buffers.signalled f.0 false)) ≡ true → Makes s (record { script = s.script; parts = record s.parts { buffers = buffers.homes_after (SignalEntry f) s.parts.buffers } }) (move_with (Signal f) (Some (SignalEntry f)))
signalled s serving f may =
    let m = move_with (Signal f) (Some (SignalEntry f)) in
    let ready : move_by s.script s.parts (Signal f) ≡ Some m = rw may refl in
    makes s (record s.parts { buffers = buffers.homes_after (SignalEntry f) s.parts.buffers }) m ready
    (same_parts _ _ refl refl refl refl refl (sym (whole_left s.script s.parts serving.run m ready refl)) refl refl)

pub not_signalled : (s : Serving) (f : FenceNo) → (nat_lt f.0 (length s.parts.buffers.signalled) && not (slice_index_or s.parts.buffers.signalled f.0 false)) ≡ false → move_by s.script s.parts (Signal f) ≡ None
not_signalled s f may = rw may refl

-- ---- drops

pub dropped : (s : Serving) → IsServing s → (w : WaitingItem) (n : FrameNo) → stopping_in s.parts.client ≡ true → first_in s.parts.queue.waiting ≡ Some w → n.0 ≡ s.parts.queue.numbers → Makes s (record { script = s.script; parts = record s.parts { queue = queue.turns_after s.script (Dropped n w.request w.index) s.parts.queue } }) (move_with DropQueued (Some (Dropped n w.request w.index)))
dropped s serving w n stops first next =
    let number : n ≡ record { 0 = s.parts.queue.numbers } = ap (λ (k : ℕ). let g : FrameNo = record { 0 = k } in g) next in
    let m = move_with DropQueued (Some (Dropped n w.request w.index)) in
    let ready : move_by s.script s.parts DropQueued ≡ Some m = rw (stops, first, number) refl in
    makes s (record s.parts { queue = queue.turns_after s.script (Dropped n w.request w.index) s.parts.queue }) m ready
    (same_parts _ _ refl refl refl refl refl (sym (whole_left s.script s.parts serving.run m ready refl)) refl refl)

-- ---- exposures

pub begun : (s : Serving) → IsServing s → (row : RowView) → shutter_row s.script.faults s.parts.rows ≡ Some row → Makes s (record { script = s.script; parts = record s.parts { rows = with_row row.frame.0 (exposed s.parts.clock) s.parts.rows; clock = s.parts.clock + max frame_time (settings_at (row_at row.frame.0 s.parts.rows)).exposure } }) (move_with Shutter (Some (ShutterEntry row.frame s.parts.clock)))
begun s serving row at =
    let m = move_with Shutter (Some (ShutterEntry row.frame s.parts.clock)) in
    let ready : move_by s.script s.parts Shutter ≡ Some m = rw at refl in
    makes s (record s.parts { rows = with_row row.frame.0 (exposed s.parts.clock) s.parts.rows; clock = s.parts.clock + max frame_time (settings_at (row_at row.frame.0 s.parts.rows)).exposure }) m ready
    (same_parts _ _ refl refl refl refl refl (sym (whole_left s.script s.parts serving.run m ready refl)) refl refl)

pub sensed : (s : Serving) → IsServing s → (job : JobView) → sensor_job_at job.frame.0 s.parts.rows ≡ Some job → Makes s (record { script = s.script; parts = record s.parts { rows = with_row job.frame.0 sensor_home s.parts.rows } }) (move_with (SensorDone job.frame) None)
sensed s serving job out =
    let m = move_with (SensorDone job.frame) None in
    let ready : move_by s.script s.parts (SensorDone job.frame) ≡ Some m = rw out refl in
    makes s (record s.parts { rows = with_row job.frame.0 sensor_home s.parts.rows }) m ready
    (same_parts _ _ refl refl refl refl refl (sym (whole_left s.script s.parts serving.run m ready refl)) refl refl)

-- ---- fills

pub taken : (s : Serving) → IsServing s → (n : FrameNo) (t : StreamIx) → is_fill_ready s.script.faults (λ f. signalled_in s.parts.buffers f) s.parts.rows n.0 t.0 ≡ true → Makes s (record { script = s.script; parts = record s.parts { rows = with_row n.0 (fill_begun t) s.parts.rows } }) (move_with (TakeFill n t) None)
taken s serving n t may =
    let m = move_with (TakeFill n t) None in
    let ready : move_by s.script s.parts (TakeFill n t) ≡ Some m = rw may refl in
    makes s (record s.parts { rows = with_row n.0 (fill_begun t) s.parts.rows }) m ready
    (same_parts _ _ refl refl refl refl refl (sym (whole_left s.script s.parts serving.run m ready refl)) refl refl)

pub not_taken : (s : Serving) (n : FrameNo) (t : StreamIx) → is_fill_ready s.script.faults (λ f. signalled_in s.parts.buffers f) s.parts.rows n.0 t.0 ≡ false → move_by s.script s.parts (TakeFill n t) ≡ None
not_taken s n t may = rw may refl

pub filled : (s : Serving) → IsServing s → (n : FrameNo) (t : StreamIx) (job : JobView) → fill_job_at s.parts.client.streams n.0 t.0 s.parts.rows ≡ Some job → Makes s (record { script = s.script; parts = record s.parts { rows = with_row n.0 (fill_ended t) s.parts.rows } }) (move_with (FillDone n t) None)
filled s serving n t job out =
    let m = move_with (FillDone n t) None in
    let ready : move_by s.script s.parts (FillDone n t) ≡ Some m = rw out refl in
    makes s (record s.parts { rows = with_row n.0 (fill_ended t) s.parts.rows }) m ready
    (same_parts _ _ refl refl refl refl refl (sym (whole_left s.script s.parts serving.run m ready refl)) refl refl)

-- ---- early returns

pub gone : (s : Serving) → IsServing s → (n : FrameNo) (t : StreamIx) (target : TargetView) (d : DeviceFenceNo) → s.script.early ≡ true → is_early_ready s.script.faults s.parts.rows n.0 t.0 ≡ true → target_in n.0 t.0 s.parts.rows ≡ Some target → d.0 ≡ length s.parts.buffers.late → Makes s (record { script = s.script; parts = record s.parts { buffers = buffers.homes_after (EarlyEntry n t target.buffer d) s.parts.buffers; pictures = showing s.parts target.buffer.0 None; rows = with_row n.0 (gone_early t) s.parts.rows } }) (move_with (Early n t) (Some (EarlyEntry n t target.buffer d)))
gone s serving n t target d early may at next =
    let fence : d ≡ record { 0 = length s.parts.buffers.late } = ap (λ (k : ℕ). let g : DeviceFenceNo = record { 0 = k } in g) next in
    let m = move_with (Early n t) (Some (EarlyEntry n t target.buffer d)) in
    let ready : move_by s.script s.parts (Early n t) ≡ Some m = rw (early, may, at, fence) refl in
    makes s (record s.parts { buffers = buffers.homes_after (EarlyEntry n t target.buffer d) s.parts.buffers; pictures = showing s.parts target.buffer.0 None; rows = with_row n.0 (gone_early t) s.parts.rows }) m ready
    (same_parts _ _ refl refl refl refl refl (sym (whole_left s.script s.parts serving.run m ready refl)) refl refl)
