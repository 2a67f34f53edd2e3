use Rattle.std.proofs.Common.{length}
use Rattle.std.specs.Vec.{vec_capacity}
use Rattle.device_rows.specs.Rows.{all_stopped}
use Rattle.device_core.specs.Stored.{views}
use Rattle.device_core.proofs.OneMark.{stopped-all}
use Rattle.device_core.proofs.Ops.{store-same}
use Rattle.device_core.proofs.store.Store.stop.Goals as goal

pub invariant_of-self : goal.invariant_of-self
invariant_of-self c =
    (stopped-all c.self.inside.plan c.self.inside.table c.mark_all.new.self c.self.inside.slots.items (length c.self.inside.spares.items) (vec_capacity c.self.inside.slots) (vec_capacity c.self.inside.spares) c.self.invariant c.mark_all.ensures).0

pub returns : goal.returns
returns c =
    let step = stopped-all c.self.inside.plan c.self.inside.table c.mark_all.new.self c.self.inside.slots.items (length c.self.inside.spares.items) (vec_capacity c.self.inside.slots) (vec_capacity c.self.inside.spares) c.self.invariant c.mark_all.ensures in
    rw (← c.self.view_is) (store-same c.self.inside.plan c.self.inside.table.capacity c.mark_all.new.self.capacity (all_stopped (views c.self.inside.table.rows)) (views c.mark_all.new.self.rows) step.2 step.1)
