use Rattle.std.proofs.Common.{sym, ◌∙◌}
use Rattle.device_core.proofs.Passing.{filled_to_deliver}
use Rattle.device_core.proofs.device.Device.deliver.Goals as goal

pub take_filled-requires : goal.take_filled-requires
take_filled-requires c =
    filled_to_deliver c.self.inside.faults c.self.inside.store.rows c.args.frame.0 c.args.stream.0 (rw (← c.self.view_is) at (sym c.may_deliver.ensures ∙ c.if-not-may_deliver.false))
