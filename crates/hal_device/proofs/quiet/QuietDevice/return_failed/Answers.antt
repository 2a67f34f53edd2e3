use Rattle.std.proofs.Common.{refl, ◌∙◌}
use Rattle.device_rows.specs.Ready.{is_failed_return_ready}
use Rattle.device_core.specs.Stored.{specs_of}
use Rattle.hal_device.proofs.Backs.{back_free}
use Rattle.hal_device.proofs.Resting.{failed_rests, fences_made, not_ready}
use Rattle.hal_device.proofs.quiet.QuietDevice.return_failed.Goals as goal

pub return_failed-requires : goal.return_failed-requires
return_failed-requires c = rw c.self.invariant.0 (fences_made c.self.inside.device.rows c.self.invariant.1)

pub returns-in_err-parked-clause-ready : goal.returns-in_err-parked-clause-ready
returns-in_err-parked-clause-ready c =
    let d = c.self.inside.device in
    rw (c.from_residual.ensures, ← c.self.view_is) (not_ready (is_failed_return_ready d.rows c.args.frame.0 c.args.stream.0) c.in_err-parked.ensures.ready.1)

pub into_block-block-requires : goal.into_block-block-requires
into_block-block-requires c =
    let d = c.self.inside.device in
    let free = back_free c.self.inside.fences (specs_of d.plan) c.args.frame.0 c.args.stream.0 d.rows c.in_ok-parked.parked c.self.invariant.1 c.in_ok-parked.ensures.parked in
    rw free.waiter refl

pub invariant_of-self-2 : goal.invariant_of-self-2
invariant_of-self-2 c = (
  c.into_block-block.ensures.fences ∙ (c.in_ok-parked.ensures.fences ∙ c.self.invariant.0),
  rw (c.in_ok-parked.ensures.rows refl) (failed_rests c.args.frame.0 c.args.stream c.self.inside.device.rows c.self.invariant.1),
)

pub returns-clause-buffer : goal.returns-clause-buffer
returns-clause-buffer c =
    let d = c.self.inside.device in
    let free = back_free c.self.inside.fences (specs_of d.plan) c.args.frame.0 c.args.stream.0 d.rows c.in_ok-parked.parked c.self.invariant.1 c.in_ok-parked.ensures.parked in
    rw (← c.self.view_is, c.id-buffer.ensures, c.into_block-block.ensures.block) free.block
