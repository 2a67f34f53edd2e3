use Rattle.std.proofs.Common.{◌≡◌, true, false, None, refl, sym, length}
use Rattle.cam_types.specs.declared.number.DeviceFenceNo.{DeviceFenceNo}
use Rattle.cam_types.specs.declared.number.FrameNo.{FrameNo}
use Rattle.cam_types.specs.declared.number.StreamIx.{StreamIx}
use Rattle.device_rows.specs.Ready.{is_early_ready}
use Rattle.run_model.specs.declared.step.StepName.TheVariants.{Early}
use Rattle.service_parts.specs.Moves.{move_by}
use Rattle.service_state.specs.Serving.{Serving}
use Rattle.service_state.proofs.Back.{early_back}
use Rattle.service_state.proofs.Made.{held, makes_as, not_true, stays_as}
use Rattle.service_state.proofs.Outs.{early_place}
use Rattle.service_state.proofs.Room.{early_has_room}
use Rattle.service_state.proofs.Steps.{gone}
use Rattle.service_state.proofs.state.ServiceState.early.Goals as goal

never : (s : Serving) (n : FrameNo) (t : StreamIx) → s.script.early ≡ false → move_by s.script s.parts (Early n t) ≡ None
never s n t off = rw off refl

not_yet : (s : Serving) (n : FrameNo) (t : StreamIx) → s.script.early ≡ true → is_early_ready s.script.faults s.parts.rows n.0 t.0 ≡ false → move_by s.script s.parts (Early n t) ≡ None
not_yet s n t on may = rw (on, may) refl

pub returns-then-not-self : goal.returns-then-not-self
returns-then-not-self c = stays_as (held c.self.inside) c.args.self.now _ _ c.self.view_is (sym c.self.view_is) (never (held c.self.inside) c.args.frame c.args.stream c.if-not-self.true)

pub returns-in_err-buffer : goal.returns-in_err-buffer
returns-in_err-buffer c =
    let i = c.self.inside in
    let may = not_true (is_early_ready i.device.faults i.device.rows c.args.frame.0 c.args.stream.0) c.in_err-buffer.ensures.ready.1 in
    let none = not_yet (held i) c.args.frame c.args.stream c.if-not-self.false (rw (sym c.self.invariant.faults) may) in
    rw c.from_residual.ensures (stays_as (held i) c.args.self.now _ _ c.self.view_is (rw (c.in_err-buffer.ensures.unchanged refl) refl) none)

pub deliver_early-fence-requires : goal.deliver_early-fence-requires
deliver_early-fence-requires c =
    let told = c.in_ok-buffer.ensures in
    let h = early_back c.self.inside c.self.invariant c.args.self.now c.self.view_is c.requires c.args.frame c.args.stream c.in_ok-buffer.buffer told.buffer (told.ready.0 refl) in
    let i = c.self.inside in
    let s = held c.self.inside in
    let next : DeviceFenceNo = record { 0 = length c.self.inside.buffers.late } in
    let made = gone s h.serving c.args.frame c.args.stream h.target next c.if-not-self.false h.ready h.found refl in
    record {
      own = h.own;
      device = rw h.same (early_place (held i) h.serving i.device.faults c.args.frame.0 c.args.stream.0 h.target (told.ready.0 refl) h.found);
      room = rw c.self.invariant.early_room (early_has_room s h.serving c.args.frame c.args.stream h.target.buffer next made.ready);
    }

pub returns : goal.returns
returns c =
    let told = c.in_ok-buffer.ensures in
    let h = early_back c.self.inside c.self.invariant c.args.self.now c.self.view_is c.requires c.args.frame c.args.stream c.in_ok-buffer.buffer told.buffer (told.ready.0 refl) in
    makes_as (held c.self.inside) c.args.self.now _ _ c.self.view_is c.requires (λ serving'.
    rw (told.rows, c.deliver_early-fence.ensures.moved, h.same) (gone (held c.self.inside) h.serving c.args.frame c.args.stream h.target c.deliver_early-fence.result c.if-not-self.false h.ready h.found c.deliver_early-fence.ensures.fence))
