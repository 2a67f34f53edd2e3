use Rattle.std.proofs.Common.{◌≡◌, ◌+◌, Some, length, refl, sym, ◌∙◌, ap, arith}
use Rattle.std.proofs.lemmas.Grind.{common_steps}
use Rattle.std.specs.Vec.{vec_capacity}
use Rattle.cam_types.specs.declared.row.RowView.{RowView}
use Rattle.device_rows.specs.Rows.{row_at}
use Rattle.device_core.specs.Stored.{views}
use Rattle.device_core.proofs.Outs.{some-same}
use Rattle.device_core.proofs.Retired.{cleared-row, done-row, retired, slot-here}
use Rattle.device_core.proofs.Steps.{slot-within}
use Rattle.device_core.proofs.store.Store.retire.Goals as goal

pub find_row-place-requires : goal.find_row-place-requires
find_row-place-requires c =
    let (row, d) = done-row (row_at c.args.frame.0 (views c.self.inside.table.rows)) (rw (← c.self.view_is) at c.requires) in
    rw d.at refl

pub remove-requires : goal.remove-requires
remove-requires c =
    let within = slot-within c.self.inside.table.rows c.find_row-place.result.0 c.find_row-place.result.1 c.self.inside.slots.items c.self.invariant.shown c.find_row-place.ensures.placed in
    grind (arith, within)

pub unreachable-requires : goal.unreachable-requires
unreachable-requires c =
    let (row, d) = done-row (row_at c.args.frame.0 (views c.self.inside.table.rows)) (rw (← c.self.view_is) at c.requires) in
    let same = some-same row c.find_row-place.result.1 _ d.at c.find_row-place.ensures.found in
    slot-here c.self.inside.plan c.self.inside.table.rows c.self.inside.table.capacity c.self.inside.slots.items (length c.self.inside.spares.items) (vec_capacity c.self.inside.slots) (vec_capacity c.self.inside.spares) c.args.frame.0 c.find_row-place.result.0 row c.remove.result c.self.invariant d.at d.settled (c.find_row-place.ensures.placed ∙ ap (λ (z : RowView). Some z) (sym same)) c.remove.ensures.value c.in-Away.is

pub invariant_of-self : goal.invariant_of-self
invariant_of-self c =
    let (row, d) = done-row (row_at c.args.frame.0 (views c.self.inside.table.rows)) (rw (← c.self.view_is) at c.requires) in
    let same = some-same row c.find_row-place.result.1 _ d.at c.find_row-place.ensures.found in
    let cleared = cleared-row c.self.inside.plan c.self.inside.table.rows c.args.frame.0 row c.self.invariant.filled d.at d.settled in
    let more : length c.push_reserved.new.self.items ≡ length c.self.inside.spares.items + 1 = grind (arith, common_steps) in
    let fewer = c.retire.ensures.fewer (c.retire.ensures.value ∙ cleared) in
    (retired c.self.inside.plan c.self.inside.table c.retire.new.self c.self.inside.slots.items c.remove.new.self.items (length c.self.inside.spares.items) (length c.push_reserved.new.self.items) (vec_capacity c.self.inside.slots) (vec_capacity c.remove.new.self) (vec_capacity c.self.inside.spares) (vec_capacity c.push_reserved.new.self) c.args.frame.0 c.find_row-place.result.0 row c.self.invariant d.at d.settled (c.find_row-place.ensures.placed ∙ ap (λ (z : RowView). Some z) (sym same)) (ap (λ (z : RowView). z.frame.0) same ∙ c.find_row-place.ensures.own) c.remove.ensures.items more c.remove.ensures.capacity c.push_reserved.ensures.capacity c.retire.ensures.left fewer).kept

pub returns : goal.returns
returns c =
    let (row, d) = done-row (row_at c.args.frame.0 (views c.self.inside.table.rows)) (rw (← c.self.view_is) at c.requires) in
    let same = some-same row c.find_row-place.result.1 _ d.at c.find_row-place.ensures.found in
    let cleared = cleared-row c.self.inside.plan c.self.inside.table.rows c.args.frame.0 row c.self.invariant.filled d.at d.settled in
    let more : length c.push_reserved.new.self.items ≡ length c.self.inside.spares.items + 1 = grind (arith, common_steps) in
    let fewer = c.retire.ensures.fewer (c.retire.ensures.value ∙ cleared) in
    rw (← c.self.view_is) (retired c.self.inside.plan c.self.inside.table c.retire.new.self c.self.inside.slots.items c.remove.new.self.items (length c.self.inside.spares.items) (length c.push_reserved.new.self.items) (vec_capacity c.self.inside.slots) (vec_capacity c.remove.new.self) (vec_capacity c.self.inside.spares) (vec_capacity c.push_reserved.new.self) c.args.frame.0 c.find_row-place.result.0 row c.self.invariant d.at d.settled (c.find_row-place.ensures.placed ∙ ap (λ (z : RowView). Some z) (sym same)) (ap (λ (z : RowView). z.frame.0) same ∙ c.find_row-place.ensures.own) c.remove.ensures.items more c.remove.ensures.capacity c.push_reserved.ensures.capacity c.retire.ensures.left fewer).is
