use Rattle.std.proofs.Common.{◌≡◌, false, None, Some, refl, sym, ap, ◌∙◌}
use Rattle.cam_types.specs.declared.number.BufferId.{BufferId}
use Rattle.state_facts.specs.Homes.{held_in}
use Rattle.service_state.proofs.Back.{filled_back}
use Rattle.device_rows.specs.Ready.{is_finish_ready}
use Rattle.run_model.specs.declared.step.StepName.TheVariants.{Finish}
use Rattle.service_parts.specs.Moves.{move_by}
use Rattle.cam_types.specs.declared.number.FrameNo.{FrameNo}
use Rattle.cam_types.specs.declared.number.StreamIx.{StreamIx}
use Rattle.service_state.specs.Serving.{Serving}
use Rattle.service_state.proofs.FrameSteps.{finishes}
use Rattle.service_state.proofs.Made.{held, makes_as, not_true, stays_as}
use Rattle.service_state.proofs.Outs.{finish_place}
use Rattle.service_state.proofs.state.ServiceState.finish.Goals as goal

not_finished : (s : Serving) (n : FrameNo) (t : StreamIx) → is_finish_ready s.parts.rows n.0 t.0 ≡ false → move_by s.script s.parts (Finish n t) ≡ None
not_finished s n t may = rw may refl

pub returns-in_err-pixels : goal.returns-in_err-pixels
returns-in_err-pixels c =
    let s = held c.self.inside in
    let none = not_finished s c.args.frame c.args.stream (not_true (is_finish_ready s.parts.rows c.args.frame.0 c.args.stream.0) c.in_err-pixels.ensures.ready.1) in
    rw c.from_residual.ensures (stays_as s c.args.self.now _ _ c.self.view_is (rw (c.in_err-pixels.ensures.unchanged refl) refl) none)

pub finish-fence-requires : goal.finish-fence-requires
finish-fence-requires c =
    let s = held c.self.inside in
    let h = filled_back c.self.inside c.self.invariant c.args.self.now c.self.view_is c.requires c.args.frame c.args.stream c.in_ok-pixels.pixels c.in_ok-pixels.digest c.in_ok-pixels.ensures.picture in
    let at = finish_place s h.serving c.args.frame.0 c.args.stream.0 h.it.target (c.in_ok-pixels.ensures.ready.0 refl) h.it.found in
    record {
      own = h.own;
      whole = h.whole;
      client = rw h.it.whole.id at.1.place;
      awaited = (at.0, ap (λ (b : BufferId). held_in s.parts.buffers b.0) h.it.whole.id ∙ at.1.fence, at.1.awaited);
    }

pub note_entry-requires : goal.note_entry-requires
note_entry-requires c =
    let told = c.in_ok-pixels.ensures in
    let h = filled_back c.self.inside c.self.invariant c.args.self.now c.self.view_is c.requires c.args.frame c.args.stream c.in_ok-pixels.pixels c.in_ok-pixels.digest c.in_ok-pixels.ensures.picture in
    let its_fence : held_in (held c.self.inside).parts.buffers h.it.target.buffer.0 ≡ Some c.finish-fence.result = rw (sym h.it.whole.id) c.finish-fence.ensures.fence in
    let step = finishes (held c.self.inside) h.serving c.args.frame c.args.stream h.it.target c.finish-fence.result c.in_ok-pixels.digest c.in_ok-pixels.pixels.bytes (told.ready.0 refl) h.it.found its_fence h.it.picture h.it.shown in
    rw (c.of-ending.ensures, told.rows) step.fits

pub returns : goal.returns
returns c =
    let told = c.in_ok-pixels.ensures in
    let h = filled_back c.self.inside c.self.invariant c.args.self.now c.self.view_is c.requires c.args.frame c.args.stream c.in_ok-pixels.pixels c.in_ok-pixels.digest c.in_ok-pixels.ensures.picture in
    let its_fence : held_in (held c.self.inside).parts.buffers h.it.target.buffer.0 ≡ Some c.finish-fence.result = rw (sym h.it.whole.id) c.finish-fence.ensures.fence in
    let step = finishes (held c.self.inside) h.serving c.args.frame c.args.stream h.it.target c.finish-fence.result c.in_ok-pixels.digest c.in_ok-pixels.pixels.bytes (told.ready.0 refl) h.it.found its_fence h.it.picture h.it.shown in
    makes_as (held c.self.inside) c.args.self.now _ _ c.self.view_is c.requires (λ serving'.
    rw (c.note_entry.ensures.client, c.note_entry.ensures.device, c.finish-fence.ensures.picture, c.of-ending.ensures, told.rows, h.it.whole.id) step.made)
