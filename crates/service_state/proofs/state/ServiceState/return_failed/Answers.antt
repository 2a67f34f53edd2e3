use Rattle.std.proofs.Common.{refl, sym, ◌∙◌}
use Rattle.device_rows.specs.Ready.{is_failed_return_ready}
use Rattle.service_state.proofs.Back.{failed_back}
use Rattle.service_state.proofs.FrameSteps.{not_failed, returns_failed}
use Rattle.service_state.proofs.Made.{held, makes_as, not_true, serving_as, stays_as}
use Rattle.service_state.proofs.Outs.{failed_place}
use Rattle.service_state.proofs.Room.{rows_given}
use Rattle.service_state.proofs.state.ServiceState.return_failed.Goals as goal

pub return_failed-requires : goal.return_failed-requires
return_failed-requires c =
    let s = held c.self.inside in
    rows_given s (serving_as s c.args.self.now c.self.view_is c.requires)

pub returns-in_err-parked : goal.returns-in_err-parked
returns-in_err-parked c =
    let i = c.self.inside in
    let told = c.in_err-parked.ensures in
    rw c.from_residual.ensures (stays_as (held i) c.args.self.now _ _ c.self.view_is (rw (told.fences, told.unchanged refl) refl) (not_failed (held i) c.args.frame c.args.stream (not_true (is_failed_return_ready i.device.rows c.args.frame.0 c.args.stream.0) told.ready.1)))

pub give_back-fence-requires : goal.give_back-fence-requires
give_back-fence-requires c =
    let h = failed_back c.self.inside c.self.invariant c.args.self.now c.self.view_is c.requires c.args.frame c.args.stream c.in_ok-parked.parked c.in_ok-parked.ensures.parked in
    record {
      own = h.own;
      whole = h.whole;
      device = rw h.it.whole.id (failed_place (held c.self.inside) h.serving c.args.frame.0 c.args.stream.0 h.it.target (c.in_ok-parked.ensures.ready.0 refl) h.it.found);
    }

pub note_entry-requires : goal.note_entry-requires
note_entry-requires c =
    let told = c.in_ok-parked.ensures in
    let h = failed_back c.self.inside c.self.invariant c.args.self.now c.self.view_is c.requires c.args.frame c.args.stream c.in_ok-parked.parked c.in_ok-parked.ensures.parked in
    let step = returns_failed (held c.self.inside) h.serving c.args.frame c.args.stream h.it.target c.give_back-fence.result.1 (told.ready.0 refl) h.it.found (c.give_back-fence.ensures.fence ∙ h.it.fence) in
    rw (c.of-ending.ensures, told.rows) step.fits

pub returns : goal.returns
returns c =
    let told = c.in_ok-parked.ensures in
    let h = failed_back c.self.inside c.self.invariant c.args.self.now c.self.view_is c.requires c.args.frame c.args.stream c.in_ok-parked.parked c.in_ok-parked.ensures.parked in
    let step = returns_failed (held c.self.inside) h.serving c.args.frame c.args.stream h.it.target c.give_back-fence.result.1 (told.ready.0 refl) h.it.found (c.give_back-fence.ensures.fence ∙ h.it.fence) in
    makes_as (held c.self.inside) c.args.self.now _ _ c.self.view_is c.requires (λ serving'.
    rw (c.note_entry.ensures.client, c.note_entry.ensures.device, c.give_back-fence.ensures.back, sym c.give_back-fence.ensures.fence, c.of-ending.ensures, told.rows, told.fences, c.give_back-fence.ensures.buffer, h.it.whole.id) step.made)
