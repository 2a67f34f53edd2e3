-- A buffer that comes back from the device, as the step that takes it finds it.
use Rattle.std.proofs.Common.{◌≡◌, ℕ, List, Some, true, sym, ap, ◌∙◌, slice_get, subst}
use Rattle.cam_types.specs.Shown.{Shown}
use Rattle.cam_types.specs.declared.number.BufferId.{BufferId}
use Rattle.cam_types.specs.declared.number.FrameNo.{FrameNo}
use Rattle.cam_types.specs.declared.number.StreamIx.{StreamIx}
use Rattle.cam_types.specs.declared.reply.Made.{Made}
use Rattle.cam_types.specs.declared.row.TargetView.{TargetView}
use Rattle.trace_model.specs.Configuration.{is_made}
use Rattle.buffer_pool.specs.declared.parked.Parked.{Parked}
use Rattle.buffer_manager.specs.Managed.{IsBufferAt}
use Rattle.device_rows.specs.Ready.{is_early_ready}
use Rattle.device_rows.specs.Rows.{target_in}
use Rattle.std.specs.Option.{option_map}
use Rattle.device_core.specs.Steps.{IsBackAt, ShowsAt}
use Rattle.device_core.specs.Stored.{specs_of}
use Rattle.service_state.specs.Serving.{IsKept, IsServing, Serving}
use Rattle.service_state.specs.declared.state.ServiceState.TheInside.{Inside}
use Rattle.service_state.proofs.Fitting.{offered_left}
use Rattle.service_state.proofs.Made.{held, serving_as}
use Rattle.service_state.proofs.Outs.{own_in, whole_at, with-buffer}
use Rattle.service_state.proofs.Room.{placed}
use Rattle.service_state.proofs.Shown.{IsBackFor, IsShownFor, back_for, shown_for}

own-of : (i : Inside) → IsServing (held i) → (n t : ℕ) (target : TargetView) (buffer : BufferId) → target_in n t i.device.rows ≡ Some target → buffer ≡ target.buffer → (m : Made) × (slice_get i.buffers.made t ≡ Some m) × (is_made buffer.0 m ≡ true)
own-of i serving n t target buffer found same = own_in (slice_get i.buffers.made t) target.buffer.0 buffer.0 (ap (λ (b : BufferId). b.0) same) (placed (held i) serving n t target found).own

-- ---- filled

pub record IsFilledBack (i : Inside) (n : FrameNo) (t : StreamIx) (pixels : Shown) (digest : List ℕ) : Type 0 where
  pub serving : IsServing (held i)
  pub it : IsShownFor i.client.streams n.0 t.0 i.device.rows pixels digest
  pub own : (m : Made) × (slice_get i.buffers.made t.0 ≡ Some m) × (is_made pixels.id.0 m ≡ true)
  pub whole : IsBufferAt (slice_get i.buffers.specs t.0) pixels

pub filled_back : (i : Inside) → IsKept i.script i.client i.captures i.buffers i.fences i.signals i.device → (s : Serving) → held i ≡ s → IsServing s → (n : FrameNo) (t : StreamIx) (pixels : Shown) (digest : List ℕ) → ShowsAt (specs_of i.device.plan) n.0 t.0 i.device.rows pixels digest → IsFilledBack i n t pixels digest
filled_back i kept s same serving' n t pixels digest shows =
    let serving = serving_as (held i) s same serving' in
    let picture : ShowsAt i.client.streams n.0 t.0 i.device.rows pixels digest = subst (λ x. ShowsAt x n.0 t.0 i.device.rows pixels digest) kept.plan shows in
    let it = shown_for i.client.streams (offered_left i.script (held i).parts serving.run) n.0 t.0 i.device.rows pixels digest picture in
    record {
      serving = serving;
      it = it;
      own = own-of i serving n.0 t.0 it.target pixels.id it.found it.whole.id;
      whole = whole_at (slice_get i.buffers.specs t.0) it.spec it.target.buffer pixels (ap (λ x. slice_get x t.0) kept.specs ∙ it.stream) it.whole;
    }

-- ---- in error

pub record IsFailedBack (i : Inside) (n : FrameNo) (t : StreamIx) (parked : Parked) : Type 0 where
  pub serving : IsServing (held i)
  pub it : IsBackFor i.fences i.client.streams n.0 t.0 i.device.rows parked
  pub own : (m : Made) × (slice_get i.buffers.made t.0 ≡ Some m) × (is_made parked.pixels.id.0 m ≡ true)
  pub whole : IsBufferAt (slice_get i.buffers.specs t.0) parked.pixels

pub failed_back : (i : Inside) → IsKept i.script i.client i.captures i.buffers i.fences i.signals i.device → (s : Serving) → held i ≡ s → IsServing s → (n : FrameNo) (t : StreamIx) (parked : Parked) → IsBackAt i.fences (specs_of i.device.plan) n.0 t.0 i.device.rows parked → IsFailedBack i n t parked
failed_back i kept s same serving' n t parked back' =
    let serving = serving_as (held i) s same serving' in
    let back : IsBackAt i.fences i.client.streams n.0 t.0 i.device.rows parked = subst (λ x. IsBackAt i.fences x n.0 t.0 i.device.rows parked) kept.plan back' in
    let it = back_for i.fences i.client.streams n.0 t.0 i.device.rows parked back in
    record {
      serving = serving;
      it = it;
      own = own-of i serving n.0 t.0 it.target parked.pixels.id it.found it.whole.id;
      whole = whole_at (slice_get i.buffers.specs t.0) it.spec it.target.buffer parked.pixels (ap (λ x. slice_get x t.0) kept.specs ∙ it.stream) it.whole;
    }

-- ---- while a stage fills it

pub record IsEarlyBack (i : Inside) (n : FrameNo) (t : StreamIx) (buffer : BufferId) : Type 0 where
  pub serving : IsServing (held i)
  pub target : TargetView
  pub found : target_in n.0 t.0 i.device.rows ≡ Some target
  pub same : buffer ≡ target.buffer
  pub ready : is_early_ready i.script.faults i.device.rows n.0 t.0 ≡ true
  pub own : (m : Made) × (slice_get i.buffers.made t.0 ≡ Some m) × (is_made buffer.0 m ≡ true)

pub early_back : (i : Inside) → IsKept i.script i.client i.captures i.buffers i.fences i.signals i.device → (s : Serving) → held i ≡ s → IsServing s → (n : FrameNo) (t : StreamIx) (buffer : BufferId) → option_map (λ target. target.buffer) (target_in n.0 t.0 i.device.rows) ≡ Some buffer → is_early_ready i.device.faults i.device.rows n.0 t.0 ≡ true → IsEarlyBack i n t buffer
early_back i kept s same serving' n t buffer back ready =
    let serving = serving_as (held i) s same serving' in
    let it = with-buffer (target_in n.0 t.0 i.device.rows) buffer back in
    record {
      serving = serving;
      target = it.0;
      found = it.1;
      same = sym it.2;
      ready = rw (sym kept.faults) ready;
      own = own-of i serving n.0 t.0 it.0 buffer it.1 (sym it.2);
    }
