use Rattle.std.proofs.Common.{sym, ◌∙◌}
use Rattle.device_core.proofs.Passing.{filled_to_finish}
use Rattle.device_core.proofs.device.Device.finish.Goals as goal

pub take_filled-requires : goal.take_filled-requires
take_filled-requires c =
    filled_to_finish c.self.inside.store.rows c.args.frame.0 c.args.stream.0 (rw (← c.self.view_is) at (sym c.may_finish.ensures ∙ c.if-not-may_finish.false))
