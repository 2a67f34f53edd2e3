use Rattle.std.proofs.Common.{sym}
use Rattle.service_state.proofs.Made.{held, makes_as, serving_as}
use Rattle.service_state.proofs.FrameSteps.{parted}
use Rattle.service_state.proofs.state.ServiceState.partial.Goals as goal

pub note_entry-requires : goal.note_entry-requires
note_entry-requires c =
    let s = held c.self.inside in
    let told = c.in_ok-number.ensures in
    let step = parted s (serving_as s c.args.self.now c.self.view_is c.requires) c.args.frame c.in_ok-number.number c.in_ok-number.part (rw (sym c.self.invariant.faults) (sym told.part)) in
    rw (c.of-ending.ensures, told.rows) step.fits

pub returns : goal.returns
returns c =
    let s = held c.self.inside in
    let told = c.in_ok-number.ensures in
    makes_as s c.args.self.now _ _ c.self.view_is c.requires (λ serving.
    rw (c.note_entry.ensures.client, c.note_entry.ensures.device, c.of-ending.ensures, told.rows) (parted s serving c.args.frame c.in_ok-number.number c.in_ok-number.part (rw (sym c.self.invariant.faults) (sym told.part))).made)
