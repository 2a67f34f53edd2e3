use Rattle.std.proofs.Common.{arith, None, refl, sym}
use Rattle.device_rows.specs.TableRows.{row_of, with_parked}
use Rattle.device_rows.proofs.Places.{absent, kept-set, present, sound-at, taken-is, taken-none, taken-rows, same-rows}
use Rattle.device_rows.proofs.Reach.{sound-placed}
use Rattle.device_rows.proofs.Within.{within}
use Rattle.device_rows.proofs.table.Table.take_target.Goals as goal

pub returns-in_default-clause-taken : goal.returns-in_default-clause-taken
returns-in_default-clause-taken g c =
    let gone = absent c.args.frame.0 c.self.inside.rows.items c.deref.result.now c.place_of.result c.deref.ensures.value c.place_of.ensures c.in_default.is in
    rw (← c.self.view_is) (taken-none c.args.stream.0 (row_of c.args.frame.0 c.self.inside.rows.items) gone.found)

pub returns-in_default-clause-left : goal.returns-in_default-clause-left
returns-in_default-clause-left g c =
    let gone = absent c.args.frame.0 c.self.inside.rows.items c.deref.result.now c.place_of.result c.deref.ensures.value c.place_of.ensures c.in_default.is in
    rw (← c.self.view_is) (same-rows c.self.inside.capacity _ _ (sym (gone.same (with_parked c.args.stream.0 None))))

pub invariant_of-self : goal.invariant_of-self
invariant_of-self g c =
    let there = present c.args.frame.0 c.self.inside.rows.items c.deref.result.now c.place_of.result c.in-Some.place c.index_mut-row.result.now c.deref.ensures.value c.place_of.ensures c.in-Some.is c.index_mut-row.ensures.value c.self.invariant.ordered in
    kept-set c.args.frame.0 c.self.inside.rows.items c.in-Some.place c.index_mut-row.result.now _ _ _ c.self.invariant there refl (sound-placed c.args.stream.0 c.index_mut-row.result.now.view.targets None c.index_mut-row.result.now.parked c.take_parked.new.parked (sound-at c.self.inside.rows.items c.in-Some.place c.index_mut-row.result.now c.self.invariant.sound there.within c.index_mut-row.ensures.value) c.take_parked.ensures.left)

pub returns-clause-taken : goal.returns-clause-taken
returns-clause-taken g c =
    let there = present c.args.frame.0 c.self.inside.rows.items c.deref.result.now c.place_of.result c.in-Some.place c.index_mut-row.result.now c.deref.ensures.value c.place_of.ensures c.in-Some.is c.index_mut-row.ensures.value c.self.invariant.ordered in
    rw (← c.self.view_is) (taken-is c.args.stream.0 (row_of c.args.frame.0 c.self.inside.rows.items) c.index_mut-row.result.now c.take_parked.result there.found c.take_parked.ensures.taken)

pub returns-clause-left : goal.returns-clause-left
returns-clause-left g c =
    let there = present c.args.frame.0 c.self.inside.rows.items c.deref.result.now c.place_of.result c.in-Some.place c.index_mut-row.result.now c.deref.ensures.value c.place_of.ensures c.in-Some.is c.index_mut-row.ensures.value c.self.invariant.ordered in
    rw (← c.self.view_is) (same-rows c.self.inside.capacity _ _ (taken-rows c.args.frame.0 c.args.stream.0 c.self.inside.rows.items c.in-Some.place c.index_mut-row.result.now c.take_parked.new.parked there c.take_parked.ensures.left))

pub index_mut-row-requires : goal.index_mut-row-requires
index_mut-row-requires g c =
    let low = within c.args.frame.0 c.deref.result.now c.place_of.result c.in-Some.place c.place_of.ensures c.in-Some.is in
    omega (arith, low, c.deref.ensures.len)
