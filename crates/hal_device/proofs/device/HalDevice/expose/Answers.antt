use Rattle.device_rows.specs.Ready.{shutter_row}
use Rattle.hal_device_model.specs.Calls.{exposed_rows}
use Rattle.hal_device.proofs.Keeping.{kept_rows, before_exposed}
use Rattle.hal_device.proofs.device.HalDevice.expose.Goals as goal

pub invariant_of-self : goal.invariant_of-self
invariant_of-self c =
    let i = c.self.inside in
    kept_rows i.quiet c.expose.new.self i.plan i.profile i.shelves i.next (exposed_rows c.args.time (shutter_row i.quiet.faults i.quiet.rows) i.quiet.rows) c.self.invariant c.expose.ensures.rows (before_exposed i.next c.args.time (shutter_row i.quiet.faults i.quiet.rows) i.quiet.rows c.self.invariant.before)
