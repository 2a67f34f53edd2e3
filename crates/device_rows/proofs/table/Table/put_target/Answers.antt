use Rattle.std.proofs.Common.{arith, Some, None, refl}
use Rattle.device_rows.specs.TableRows.{has_place, passes, row_of, with_parked, with_row}
use Rattle.device_rows.proofs.Places.{absent, cond-false, cond-like, kept-set, passes-is, passes-none, present, sound-at, put-rows, same-rows}
use Rattle.device_rows.proofs.Reach.{sound-put}
use Rattle.device_rows.proofs.Within.{within}
use Rattle.device_rows.proofs.table.Table.put_target.Goals as goal

pub returns-in_default-clause-handed_back : goal.returns-in_default-clause-handed_back
returns-in_default-clause-handed_back g c =
    let gone = absent c.args.frame.0 c.self.inside.rows.items c.deref.result.now c.place_of.result c.deref.ensures.value c.place_of.ensures c.in_default.is in
    rw (← c.self.view_is) (cond-false (passes (has_place c.args.stream.0) (row_of c.args.frame.0 c.self.inside.rows.items)) None (Some c.args.parked) (Some c.args.parked) (passes-none (has_place c.args.stream.0) (row_of c.args.frame.0 c.self.inside.rows.items) gone.found) refl)

pub returns-in_default-clause-parked : goal.returns-in_default-clause-parked
returns-in_default-clause-parked g c =
    let gone = absent c.args.frame.0 c.self.inside.rows.items c.deref.result.now c.place_of.result c.deref.ensures.value c.place_of.ensures c.in_default.is in
    rw (← c.self.view_is) (same-rows c.self.inside.capacity _ _ (cond-false (passes (has_place c.args.stream.0) (row_of c.args.frame.0 c.self.inside.rows.items)) (with_row c.args.frame.0 (with_parked c.args.stream.0 (Some c.args.parked)) c.self.inside.rows.items) c.self.inside.rows.items c.self.inside.rows.items (passes-none (has_place c.args.stream.0) (row_of c.args.frame.0 c.self.inside.rows.items) gone.found) refl))

pub invariant_of-self : goal.invariant_of-self
invariant_of-self g c =
    let there = present c.args.frame.0 c.self.inside.rows.items c.deref.result.now c.place_of.result c.in-Some.place c.index_mut-row.result.now c.deref.ensures.value c.place_of.ensures c.in-Some.is c.index_mut-row.ensures.value c.self.invariant.ordered in
    kept-set c.args.frame.0 c.self.inside.rows.items c.in-Some.place c.index_mut-row.result.now _ _ _ c.self.invariant there refl (sound-put c.args.stream.0 c.index_mut-row.result.now (Some c.args.parked) c.put_parked.new.parked (sound-at c.self.inside.rows.items c.in-Some.place c.index_mut-row.result.now c.self.invariant.sound there.within c.index_mut-row.ensures.value) c.put_parked.ensures.kept)

pub returns-clause-handed_back : goal.returns-clause-handed_back
returns-clause-handed_back g c =
    let there = present c.args.frame.0 c.self.inside.rows.items c.deref.result.now c.place_of.result c.in-Some.place c.index_mut-row.result.now c.deref.ensures.value c.place_of.ensures c.in-Some.is c.index_mut-row.ensures.value c.self.invariant.ordered in
    rw (← c.self.view_is) (cond-like (has_place c.args.stream.0 c.index_mut-row.result.now) (passes (has_place c.args.stream.0) (row_of c.args.frame.0 c.self.inside.rows.items)) None (Some c.args.parked) c.put_parked.result (passes-is (has_place c.args.stream.0) (row_of c.args.frame.0 c.self.inside.rows.items) c.index_mut-row.result.now (has_place c.args.stream.0 c.index_mut-row.result.now) there.found refl) c.put_parked.ensures.handed_back)

pub returns-clause-parked : goal.returns-clause-parked
returns-clause-parked g c =
    let there = present c.args.frame.0 c.self.inside.rows.items c.deref.result.now c.place_of.result c.in-Some.place c.index_mut-row.result.now c.deref.ensures.value c.place_of.ensures c.in-Some.is c.index_mut-row.ensures.value c.self.invariant.ordered in
    rw (← c.self.view_is) (same-rows c.self.inside.capacity _ _ (put-rows c.args.frame.0 c.args.stream.0 c.self.inside.rows.items c.in-Some.place c.index_mut-row.result.now c.args.parked c.put_parked.new.parked there c.put_parked.ensures.kept))

pub index_mut-row-requires : goal.index_mut-row-requires
index_mut-row-requires g c =
    let low = within c.args.frame.0 c.deref.result.now c.place_of.result c.in-Some.place c.place_of.ensures c.in-Some.is in
    omega (arith, low, c.deref.ensures.len)
