use Rattle.std.proofs.Common.{◌≡◌}
use Rattle.device_core.specs.View.{with_rows}
use Rattle.device_rows.specs.Rows.{exposed, sensor_home, with_row}
use Rattle.hal_device.proofs.Jobs.{exposed_out, exposed_job}
use Rattle.hal_device.proofs.Resting.{exposed_rests}
use Rattle.hal_device.proofs.quiet.QuietDevice.expose.Goals as goal

pub sensor_done-requires : goal.sensor_done-requires
sensor_done-requires c =
    let d = c.self.inside.device in
    let is = exposed_job d.faults d.rows c.in_ok-row.row c.in_ok-job.job c.in_ok-row.ensures.due c.in_ok-job.ensures.job in
    let begun : c.shutter.new.self ≡ with_rows (with_row c.in_ok-job.job.frame.0 (exposed c.args.time) d.rows) d = c.in_ok-job.ensures.rows in
    let same : c.expose.result ≡ c.in_ok-job.job = c.expose.ensures in
    rw (begun, same) (exposed_out d.rows c.in_ok-row.row c.in_ok-job.job c.args.time c.in_ok-row.ensures.found is)

pub invariant_of-self-2 : goal.invariant_of-self-2
invariant_of-self-2 c =
    let d = c.self.inside.device in
    let begun : c.shutter.new.self ≡ with_rows (with_row c.in_ok-job.job.frame.0 (exposed c.args.time) d.rows) d = c.in_ok-job.ensures.rows in
    let home : c.sensor_done.new.self ≡ with_rows (with_row c.expose.result.frame.0 sensor_home c.shutter.new.self.rows) c.shutter.new.self = c.sensor_done.ensures in
    let same : c.expose.result ≡ c.in_ok-job.job = c.expose.ensures in
    (c.self.invariant.0, rw (home, begun, same) (exposed_rests c.in_ok-job.job.frame.0 c.args.time d.rows c.self.invariant.1))
