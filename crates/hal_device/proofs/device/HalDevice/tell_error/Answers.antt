use Rattle.device_rows.specs.Ready.{next_error}
use Rattle.hal_device_model.specs.Calls.{error_rows}
use Rattle.hal_device.proofs.Keeping.{before_error, kept_rows}
use Rattle.hal_device.proofs.device.HalDevice.tell_error.Goals as goal

pub invariant_of-self-then-matches : goal.invariant_of-self-then-matches
invariant_of-self-then-matches c =
    let i = c.self.inside in
    kept_rows i.quiet c.error.new.self i.plan i.profile i.shelves i.next (error_rows c.args.frame.0 (next_error i.quiet.faults i.quiet.rows c.args.frame.0) i.quiet.rows) c.self.invariant c.error.ensures.rows (before_error i.next c.args.frame.0 (next_error i.quiet.faults i.quiet.rows c.args.frame.0) i.quiet.rows c.self.invariant.before)

pub invariant_of-self-else-matches : goal.invariant_of-self-else-matches
invariant_of-self-else-matches c =
    let i = c.self.inside in
    kept_rows i.quiet c.error.new.self i.plan i.profile i.shelves i.next (error_rows c.args.frame.0 (next_error i.quiet.faults i.quiet.rows c.args.frame.0) i.quiet.rows) c.self.invariant c.error.ensures.rows (before_error i.next c.args.frame.0 (next_error i.quiet.faults i.quiet.rows c.args.frame.0) i.quiet.rows c.self.invariant.before)
