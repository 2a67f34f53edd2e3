use Rattle.std.proofs.Common.{sym, ◌∙◌}
use Rattle.device_core.proofs.Passing.{in_fill}
use Rattle.device_core.proofs.device.Device.early.Goals as goal

pub note_early-requires : goal.note_early-requires
note_early-requires c =
    in_fill c.self.inside.faults c.self.inside.store.rows c.args.frame.0 c.args.stream.0 (rw (← c.self.view_is) at (sym c.may_come_early.ensures ∙ c.if-not-may_come_early.false))
