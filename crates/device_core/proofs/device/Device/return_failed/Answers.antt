use Rattle.std.proofs.Common.{sym, ◌∙◌}
use Rattle.buffer_pool.specs.Fences.{made}
use Rattle.device_rows.specs.Ready.{may_return_failed}
use Rattle.device_core.proofs.Passing.{made_target}
use Rattle.device_core.proofs.device.Device.return_failed.Goals as goal

pub take_failed-requires-clause-made : goal.take_failed-requires-clause-made
take_failed-requires-clause-made c =
    made_target (made c.args.fences.now) c.args.frame.0 c.args.stream.0 c.self.inside.store.rows may_return_failed (rw (← c.self.view_is) at c.requires) (rw (← c.self.view_is) at (sym c.may_return_failed.ensures ∙ c.if-not-may_return_failed.false))

pub take_failed-requires-clause-failed : goal.take_failed-requires-clause-failed
take_failed-requires-clause-failed c = rw (← c.self.view_is) at (sym c.may_return_failed.ensures ∙ c.if-not-may_return_failed.false)
