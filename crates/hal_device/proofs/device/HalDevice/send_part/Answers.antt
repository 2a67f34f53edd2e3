use Rattle.device_rows.specs.Ready.{next_part}
use Rattle.hal_device_model.specs.Calls.{sent_rows}
use Rattle.hal_device.proofs.Keeping.{kept_rows, before_sent}
use Rattle.hal_device.proofs.device.HalDevice.send_part.Goals as goal

pub invariant_of-self : goal.invariant_of-self
invariant_of-self c =
    let i = c.self.inside in
    kept_rows i.quiet c.part.new.self i.plan i.profile i.shelves i.next (sent_rows c.args.frame.0 (next_part i.quiet.faults i.quiet.rows c.args.frame.0) i.quiet.rows) c.self.invariant c.part.ensures.rows (before_sent i.next c.args.frame.0 (next_part i.quiet.faults i.quiet.rows c.args.frame.0) i.quiet.rows c.self.invariant.before)
