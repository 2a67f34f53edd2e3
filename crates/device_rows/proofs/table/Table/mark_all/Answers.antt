use Rattle.device_rows.proofs.Marked.{all-back, kept-all}
use Rattle.device_rows.proofs.Places.{same-rows}
use Rattle.device_rows.proofs.table.Table.mark_all.Goals as goal

pub invariant_of-self : goal.invariant_of-self
invariant_of-self g c =
    kept-all c.args.mark c.self.inside.rows.items c.deref_mut.result.now c.mark_each.new.rows c.self.inside.rows.len _ _ c.self.invariant c.deref_mut.ensures.value c.deref_mut.ensures.len c.mark_each.ensures

pub returns : goal.returns
returns g c =
    rw (← c.self.view_is) (same-rows c.self.inside.capacity _ _ (all-back c.args.mark c.self.inside.rows.items c.deref_mut.result.now c.mark_each.new.rows c.self.inside.rows.len c.deref_mut.ensures.value c.deref_mut.ensures.len c.mark_each.ensures))
