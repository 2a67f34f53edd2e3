use Rattle.std.proofs.Common.{if◌then◌else◌}
use Rattle.hal_device_model.specs.Calls.{filled_rows}
use Rattle.hal_device.proofs.Keeping.{kept_rows, before_filled, before_if}
use Rattle.hal_device.proofs.device.HalDevice.fill.Goals as goal

pub invariant_of-self : goal.invariant_of-self
invariant_of-self c =
    let i = c.self.inside in
    kept_rows i.quiet c.fill.new.self i.plan i.profile i.shelves i.next (if c.fill.result then filled_rows c.args.frame.0 c.args.stream i.quiet.rows else i.quiet.rows) c.self.invariant c.fill.ensures.rows (before_if c.fill.result i.next (filled_rows c.args.frame.0 c.args.stream i.quiet.rows) i.quiet.rows (before_filled i.next c.args.frame.0 c.args.stream i.quiet.rows c.self.invariant.before) c.self.invariant.before)
