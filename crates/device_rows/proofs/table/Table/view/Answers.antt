use Rattle.std.proofs.Common.{arith}
use Rattle.device_rows.specs.TableRows.{row_of}
use Rattle.device_rows.proofs.Places.{absent, present, view-is, view-none}
use Rattle.device_rows.proofs.Within.{within}
use Rattle.device_rows.proofs.table.Table.view.Goals as goal

pub returns-in_default-clause-value : goal.returns-in_default-clause-value
returns-in_default-clause-value g c =
    let gone = absent c.args.frame.0 c.self.inside.rows.items c.deref.result.now c.place_of.result c.deref.ensures.value c.place_of.ensures c.in_default.is in
    rw (← c.self.view_is) (view-none (row_of c.args.frame.0 c.self.inside.rows.items) gone.found)

pub returns-clause-value : goal.returns-clause-value
returns-clause-value g c =
    let there = present c.args.frame.0 c.self.inside.rows.items c.deref.result.now c.place_of.result c.in-Some.place c.index-row.result.now c.deref.ensures.value c.place_of.ensures c.in-Some.is c.index-row.ensures c.self.invariant.ordered in
    rw (← c.self.view_is) (view-is (row_of c.args.frame.0 c.self.inside.rows.items) c.index-row.result.now there.found)

pub index-row-requires : goal.index-row-requires
index-row-requires g c =
    let low = within c.args.frame.0 c.deref.result.now c.place_of.result c.in-Some.place c.place_of.ensures c.in-Some.is in
    omega (arith, low, c.deref.ensures.len)

pub returns-in_default-clause-kept : goal.returns-in_default-clause-kept
returns-in_default-clause-kept g c = rw (← c.self.view_is) (c.self.invariant.ordered, c.self.invariant.sound)

pub returns-clause-kept : goal.returns-clause-kept
returns-clause-kept g c = rw (← c.self.view_is) (c.self.invariant.ordered, c.self.invariant.sound)
