use Rattle.device_rows.specs.Rows.{all_stopped}
use Rattle.hal_device.proofs.Keeping.{kept_rows, before_stopped}
use Rattle.hal_device.proofs.device.HalDevice.begin_flush.Goals as goal

pub invariant_of-self : goal.invariant_of-self
invariant_of-self c =
    let i = c.self.inside in
    kept_rows i.quiet c.stop.new.self i.plan i.profile i.shelves i.next (all_stopped i.quiet.rows) c.self.invariant c.stop.ensures (before_stopped i.next i.quiet.rows c.self.invariant.before)
