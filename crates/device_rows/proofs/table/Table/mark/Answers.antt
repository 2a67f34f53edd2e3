use Rattle.std.proofs.Common.{arith, sym}
use Rattle.device_rows.specs.TableRows.{row_of, with_mark}
use Rattle.device_rows.proofs.Marked.{marked-rows, same-frame}
use Rattle.device_rows.proofs.Places.{absent, is_some-is, is_some-none, kept-set, present, sound-at, same-rows}
use Rattle.device_rows.proofs.Reach.{sound-marked}
use Rattle.device_rows.proofs.Within.{within}
use Rattle.device_rows.proofs.table.Table.mark.Goals as goal

pub returns-in_default-clause-value : goal.returns-in_default-clause-value
returns-in_default-clause-value g c =
    let gone = absent c.args.frame.0 c.self.inside.rows.items c.deref.result.now c.place_of.result c.deref.ensures.value c.place_of.ensures c.in_default.is in
    rw (← c.self.view_is) (is_some-none (row_of c.args.frame.0 c.self.inside.rows.items) gone.found)

pub returns-in_default-clause-marked : goal.returns-in_default-clause-marked
returns-in_default-clause-marked g c =
    let gone = absent c.args.frame.0 c.self.inside.rows.items c.deref.result.now c.place_of.result c.deref.ensures.value c.place_of.ensures c.in_default.is in
    rw (← c.self.view_is) (same-rows c.self.inside.capacity _ _ (sym (gone.same (with_mark c.args.mark))))

pub invariant_of-self : goal.invariant_of-self
invariant_of-self g c =
    let there = present c.args.frame.0 c.self.inside.rows.items c.deref.result.now c.place_of.result c.in-Some.place c.index_mut-row.result.now c.deref.ensures.value c.place_of.ensures c.in-Some.is c.index_mut-row.ensures.value c.self.invariant.ordered in
    kept-set c.args.frame.0 c.self.inside.rows.items c.in-Some.place c.index_mut-row.result.now _ _ _ c.self.invariant there (same-frame c.args.mark c.index_mut-row.result.now.view c.marked-row.result c.marked-row.ensures) (sound-marked c.args.mark c.index_mut-row.result.now.view c.marked-row.result c.index_mut-row.result.now.parked (sound-at c.self.inside.rows.items c.in-Some.place c.index_mut-row.result.now c.self.invariant.sound there.within c.index_mut-row.ensures.value) c.marked-row.ensures)

pub returns-clause-value : goal.returns-clause-value
returns-clause-value g c =
    let there = present c.args.frame.0 c.self.inside.rows.items c.deref.result.now c.place_of.result c.in-Some.place c.index_mut-row.result.now c.deref.ensures.value c.place_of.ensures c.in-Some.is c.index_mut-row.ensures.value c.self.invariant.ordered in
    rw (← c.self.view_is) (is_some-is (row_of c.args.frame.0 c.self.inside.rows.items) c.index_mut-row.result.now there.found)

pub returns-clause-marked : goal.returns-clause-marked
returns-clause-marked g c =
    let there = present c.args.frame.0 c.self.inside.rows.items c.deref.result.now c.place_of.result c.in-Some.place c.index_mut-row.result.now c.deref.ensures.value c.place_of.ensures c.in-Some.is c.index_mut-row.ensures.value c.self.invariant.ordered in
    rw (← c.self.view_is) (same-rows c.self.inside.capacity _ _ (marked-rows c.args.frame.0 c.args.mark c.self.inside.rows.items c.in-Some.place c.index_mut-row.result.now c.marked-row.result there c.marked-row.ensures))

pub index_mut-row-requires : goal.index_mut-row-requires
index_mut-row-requires g c =
    let low = within c.args.frame.0 c.deref.result.now c.place_of.result c.in-Some.place c.place_of.ensures c.in-Some.is in
    omega (arith, low, c.deref.ensures.len)
