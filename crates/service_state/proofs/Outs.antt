-- What goes from the device to the client or home meets what the buffers ask for.
use Rattle.std.proofs.Common.{◌≡◌, ℕ, Bool, true, false, ◌&&◌, ◌||◌, not, List, Option, Some, None, refl, sym, ◌∙◌}
use Rattle.std.specs.Option.{option_map}
use Rattle.std.proofs.lemmas.Bool.{and_parts, false≢true}
use Rattle.cam_types.specs.Shown.{Shown}
use Rattle.cam_types.specs.Rows.{is_returned}
use Rattle.cam_types.specs.declared.number.BufferId.{BufferId}
use Rattle.cam_types.specs.declared.number.DeviceFenceNo.{DeviceFenceNo}
use Rattle.cam_types.specs.declared.reply.Made.{Made}
use Rattle.cam_types.specs.declared.row.RowView.{RowView}
use Rattle.cam_types.specs.declared.row.TargetState.{TargetState}
use Rattle.cam_types.specs.declared.row.TargetState.TheVariants.{Waiting, Out, Filled, EarlyFilled}
use Rattle.cam_types.specs.declared.row.TargetView.{TargetView}
use Rattle.cam_types.specs.declared.script.Fault.{Fault}
use Rattle.cam_types.specs.declared.stream.StreamSpec.{StreamSpec}
use Rattle.trace_model.specs.Configuration.{is_made}
use Rattle.trace_model.specs.Place.{Device, is_at}
use Rattle.state_facts.specs.Homes.{place_in}
use Rattle.buffer_manager.specs.Managed.{IsBufferAt}
use Rattle.fill_jobs.specs.Buffers.{IsBufferFor}
use Rattle.device_rows.specs.Ready.{is_delivery_ready, is_early_ready, is_failed_return_ready, is_finish_ready, is_sensor_out, is_same_state, may_deliver, may_go_early, may_return, may_return_failed, passes_at, target_passes}
use Rattle.device_rows.specs.Rows.{row_at, target_at, target_in}
use Rattle.service_parts.specs.Facts.{IsAwaited, is_early, is_of}
use Rattle.service_state.specs.Serving.{IsServing, Serving}
use Rattle.service_state.proofs.Room.{placed}

-- ---- the buffer is the stream's, and whole

pub own_in : (o : Option Made) (b c : ℕ) → c ≡ b → is_of o b ≡ true → (x : Made) × (o ≡ Some x) × (is_made c x ≡ true)
own_in (Some m) b c same own = (m, refl, rw same own)
own_in None b c same own = absurd (false≢true own)

pub whole_at : (o : Option StreamSpec) (spec : StreamSpec) (buffer : BufferId) (pixels : Shown) → o ≡ Some spec → IsBufferFor spec buffer pixels → IsBufferAt o pixels
whole_at (Some x) spec buffer pixels is whole =
    let same : x ≡ spec = cc in
    rw same (record { id = refl; bytes = whole.bytes; block = whole.block })
whole_at None spec buffer pixels is whole = absurd (cc)

-- ---- where the buffer is

-- the test holds of the target of its row
passes-in : (test : RowView → TargetView → Bool) (n s : ℕ) (rows : List RowView) (target : TargetView) → target_passes test s (row_at n rows) ≡ true → target_in n s rows ≡ Some target → (row : RowView) × (test row target ≡ true)
passes-in test n s rows target passes at = by (row_at n rows) refl passes at
  where
    by-target : (row : RowView) (o : Option TargetView) → target_at s row ≡ o → passes_at (test row) o ≡ true → o ≡ Some target → (r : RowView) × (test r target ≡ true)
    by-target row (Some x) has passes' is = let same : x ≡ target = cc in (row, rw (sym same) passes')
    by-target row None has passes' is = absurd (false≢true passes')

    by : (o : Option RowView) → row_at n rows ≡ o → target_passes test s o ≡ true → target_in n s rows ≡ Some target → (r : RowView) × (test r target ≡ true)
    by (Some row) found passes' is = by-target row (target_at s row) refl passes' (sym (rw found refl) ∙ is)
    by None found passes' is = absurd (false≢true passes')

filled-stays : (state : TargetState) → is_same_state state Filled ≡ true → is_returned state ≡ false
filled-stays Filled is = refl
filled-stays _ is = absurd (false≢true is)

out-stays : (state : TargetState) → is_same_state state Out ≡ true → is_returned state ≡ false
out-stays Out is = refl
out-stays _ is = absurd (false≢true is)

early-is : (state : TargetState) → is_same_state state EarlyFilled ≡ true → is_early state ≡ true
early-is EarlyFilled is = refl
early-is _ is = absurd (false≢true is)

kept-stays : (state : TargetState) → (is_same_state state Waiting || is_same_state state Filled) ≡ true → is_returned state ≡ false
kept-stays Filled is = refl
kept-stays Waiting is = refl
kept-stays _ is = absurd (false≢true is)

pub delivery_place : (s : Serving) → IsServing s → (faults : List Fault) (n t : ℕ) (target : TargetView) → is_delivery_ready faults s.parts.rows n t ≡ true → target_in n t s.parts.rows ≡ Some target → is_at (place_in s.parts.buffers target.buffer.0) Device ≡ true
delivery_place s serving faults n t target ready at =
    let passes = passes-in (may_deliver faults s.parts.rows) n t s.parts.rows target ready at in
    let state = (and_parts (is_same_state target.state Filled) (may_return faults s.parts.rows passes.0 target) passes.1).0 in
    (placed s serving n t target at).device (filled-stays target.state state)

pub early_place : (s : Serving) → IsServing s → (faults : List Fault) (n t : ℕ) (target : TargetView) → is_early_ready faults s.parts.rows n t ≡ true → target_in n t s.parts.rows ≡ Some target → is_at (place_in s.parts.buffers target.buffer.0) Device ≡ true
early_place s serving faults n t target ready at =
    let passes = passes-in (may_go_early faults s.parts.rows) n t s.parts.rows target ready at in
    let state = (and_parts (is_same_state target.state Out) (may_return faults s.parts.rows passes.0 target) passes.1).0 in
    (placed s serving n t target at).device (out-stays target.state state)

pub failed_place : (s : Serving) → IsServing s → (n t : ℕ) (target : TargetView) → is_failed_return_ready s.parts.rows n t ≡ true → target_in n t s.parts.rows ≡ Some target → is_at (place_in s.parts.buffers target.buffer.0) Device ≡ true
failed_place s serving n t target ready at =
    let passes = passes-in may_return_failed n t s.parts.rows target ready at in
    let row = passes.0 in
    let kept = (and_parts (row.request_error || target.announced) (not (is_sensor_out row.sensor) && (is_same_state target.state Waiting || is_same_state target.state Filled)) passes.1).1 in
    let state = (and_parts (not (is_sensor_out row.sensor)) (is_same_state target.state Waiting || is_same_state target.state Filled) kept).1 in
    (placed s serving n t target at).device (kept-stays target.state state)

-- a picture that comes late is of a buffer that the client has, with a device fence that isn't signalled
pub finish_place : (s : Serving) → IsServing s → (n t : ℕ) (target : TargetView) → is_finish_ready s.parts.rows n t ≡ true → target_in n t s.parts.rows ≡ Some target → (d : DeviceFenceNo) × IsAwaited s.parts.buffers target.buffer.0 d
finish_place s serving n t target ready at =
    let passes = passes-in (λ row x. is_same_state x.state EarlyFilled) n t s.parts.rows target ready at in
    (placed s serving n t target at).early (early-is target.state passes.1)

-- the target whose buffer it is
pub with-buffer : (o : Option TargetView) (buffer : BufferId) → option_map (λ target. target.buffer) o ≡ Some buffer → (target : TargetView) × (o ≡ Some target) × (target.buffer ≡ buffer)
with-buffer (Some target) buffer at = let same : target.buffer ≡ buffer = cc in (target, refl, same)
with-buffer None buffer at = absurd (cc)
