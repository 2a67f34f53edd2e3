use Rattle.device_core.proofs.Due.{dark_next}
use Rattle.device_core.proofs.device.Device.shutter.Goals as goal

pub expose-requires : goal.expose-requires
expose-requires c =
    dark_next c.self.inside.store.rows c.in_ok-row.row (rw (← c.self.view_is) at c.in_ok-row.ensures.next) (rw (← c.self.view_is) at c.in_ok-row.ensures.found)
