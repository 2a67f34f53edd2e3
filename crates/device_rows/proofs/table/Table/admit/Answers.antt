use Rattle.std.proofs.Common.{◌<◌, length, arith}
use Rattle.std.proofs.lemmas.Grind.{common_steps}
use Rattle.device_rows.proofs.Places.{kept-push}
use Rattle.device_rows.proofs.Reach.{sound-new}
use Rattle.device_rows.proofs.table.Table.admit.Goals as goal

pub invariant_of-self : goal.invariant_of-self
invariant_of-self g c =
    let room : length c.self.inside.rows.items < c.self.inside.capacity = grind (arith, common_steps) in
    let below = rw (← c.self.view_is) at c.requires.later in
    kept-push c.self.inside.rows.items c.push_reserved.new.self.items _ _ _ _ c.self.invariant (omega arith) room below (sound-new c.args.row.targets c.args.parked c.requires.apart c.requires.one_each) c.push_reserved.ensures.items
