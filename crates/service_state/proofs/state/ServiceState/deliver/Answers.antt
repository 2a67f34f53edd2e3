use Rattle.std.proofs.Common.{◌≡◌, false, None, refl, sym}
use Rattle.service_state.proofs.Back.{filled_back}
use Rattle.device_rows.specs.Ready.{is_delivery_ready}
use Rattle.service_state.proofs.FrameSteps.{delivers}
use Rattle.run_model.specs.declared.step.StepName.TheVariants.{Deliver}
use Rattle.service_parts.specs.Moves.{move_by}
use Rattle.cam_types.specs.declared.number.FrameNo.{FrameNo}
use Rattle.cam_types.specs.declared.number.StreamIx.{StreamIx}
use Rattle.service_state.specs.Serving.{Serving}
use Rattle.service_state.proofs.Made.{held, makes_as, not_true, stays_as}
use Rattle.service_state.proofs.Outs.{delivery_place}
use Rattle.service_state.proofs.state.ServiceState.deliver.Goals as goal

not_delivered : (s : Serving) (n : FrameNo) (t : StreamIx) → is_delivery_ready s.script.faults s.parts.rows n.0 t.0 ≡ false → move_by s.script s.parts (Deliver n t) ≡ None
not_delivered s n t may = rw may refl

pub returns-in_err-pixels : goal.returns-in_err-pixels
returns-in_err-pixels c =
    let i = c.self.inside in
    let no_more = not_true (is_delivery_ready i.device.faults i.device.rows c.args.frame.0 c.args.stream.0) c.in_err-pixels.ensures.ready.1 in
    rw c.from_residual.ensures (stays_as (held i) c.args.self.now _ _ c.self.view_is (rw (c.in_err-pixels.ensures.unchanged refl) refl) (not_delivered (held i) c.args.frame c.args.stream (rw (sym c.self.invariant.faults) no_more)))

pub deliver-requires-2 : goal.deliver-requires-2
deliver-requires-2 c =
    let h = filled_back c.self.inside c.self.invariant c.args.self.now c.self.view_is c.requires c.args.frame c.args.stream c.in_ok-pixels.pixels c.in_ok-pixels.digest c.in_ok-pixels.ensures.picture in
    let i = c.self.inside in
    record {
      own = h.own;
      whole = h.whole;
      device = rw h.it.whole.id (delivery_place (held i) h.serving i.device.faults c.args.frame.0 c.args.stream.0 h.it.target (c.in_ok-pixels.ensures.ready.0 refl) h.it.found);
    }

pub note_entry-requires : goal.note_entry-requires
note_entry-requires c =
    let told = c.in_ok-pixels.ensures in
    let h = filled_back c.self.inside c.self.invariant c.args.self.now c.self.view_is c.requires c.args.frame c.args.stream c.in_ok-pixels.pixels c.in_ok-pixels.digest c.in_ok-pixels.ensures.picture in
    let step = delivers (held c.self.inside) h.serving c.args.frame c.args.stream h.it.target c.in_ok-pixels.digest c.in_ok-pixels.pixels.bytes (rw (sym c.self.invariant.faults) (told.ready.0 refl)) h.it.found h.it.picture h.it.shown in
    rw (c.of-ending.ensures, told.rows) step.fits

pub returns : goal.returns
returns c =
    let told = c.in_ok-pixels.ensures in
    let h = filled_back c.self.inside c.self.invariant c.args.self.now c.self.view_is c.requires c.args.frame c.args.stream c.in_ok-pixels.pixels c.in_ok-pixels.digest c.in_ok-pixels.ensures.picture in
    let step = delivers (held c.self.inside) h.serving c.args.frame c.args.stream h.it.target c.in_ok-pixels.digest c.in_ok-pixels.pixels.bytes (rw (sym c.self.invariant.faults) (told.ready.0 refl)) h.it.found h.it.picture h.it.shown in
    makes_as (held c.self.inside) c.args.self.now _ _ c.self.view_is c.requires (λ serving'.
    rw (c.note_entry.ensures.client, c.note_entry.ensures.device, c.deliver-2.ensures, c.of-ending.ensures, told.rows, c.id-buffer.ensures, h.it.whole.id) step.made)
