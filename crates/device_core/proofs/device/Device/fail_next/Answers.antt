use Rattle.std.proofs.Common.{sym, ◌∙◌}
use Rattle.device_core.proofs.Due.{timely_next}
use Rattle.device_core.proofs.device.Device.fail_next.Goals as goal

pub note_error-requires : goal.note_error-requires
note_error-requires c =
    timely_next c.self.inside.faults c.self.inside.store.rows c.args.frame.0 c.in_ok-error.error (rw (← c.self.view_is) at (sym c.error_due.ensures ∙ c.in_ok-error.was))
