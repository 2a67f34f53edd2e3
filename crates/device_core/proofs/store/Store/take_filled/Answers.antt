use Rattle.std.proofs.Common.{length, ◌∙◌}
use Rattle.std.specs.Vec.{vec_capacity}
use Rattle.device_core.specs.Kept.{filled_for}
use Rattle.device_core.specs.Steps.{is_filled}
use Rattle.device_core.specs.Stored.{specs_of, views}
use Rattle.device_core.proofs.Moves.{filled-moved, filled-state}
use Rattle.device_core.proofs.Outs.{job-of, not-filled, not-none, shows-job, taking}
use Rattle.device_core.proofs.store.Store.take_filled.Goals as goal

pub invariant_of-self : goal.invariant_of-self
invariant_of-self c =
    let (row, g, spec, k) = taking c.self.inside.plan c.self.inside.table c.self.inside.slots.items (length c.self.inside.spares.items) (vec_capacity c.self.inside.slots) (vec_capacity c.self.inside.spares) c.args.frame.0 c.args.stream.0 is_filled c.self.invariant (rw (← c.self.view_is) at c.requires) in
    (filled-moved c.self.inside.plan c.self.inside.table c.take_target.new.self c.mark.new.self c.self.inside.slots.items (length c.self.inside.spares.items) (vec_capacity c.self.inside.slots) (vec_capacity c.self.inside.spares) c.args.frame.0 c.args.stream row g c.self.invariant k.at k.target.found k.passed c.take_target.ensures.left c.mark.ensures.marked).kept

pub returns-clause-rows : goal.returns-clause-rows
returns-clause-rows c =
    let (row, g, spec, k) = taking c.self.inside.plan c.self.inside.table c.self.inside.slots.items (length c.self.inside.spares.items) (vec_capacity c.self.inside.slots) (vec_capacity c.self.inside.spares) c.args.frame.0 c.args.stream.0 is_filled c.self.invariant (rw (← c.self.view_is) at c.requires) in
    rw (← c.self.view_is) (filled-moved c.self.inside.plan c.self.inside.table c.take_target.new.self c.mark.new.self c.self.inside.slots.items (length c.self.inside.spares.items) (vec_capacity c.self.inside.slots) (vec_capacity c.self.inside.spares) c.args.frame.0 c.args.stream row g c.self.invariant k.at k.target.found k.passed c.take_target.ensures.left c.mark.ensures.marked).is

pub unreachable-requires : goal.unreachable-requires
unreachable-requires c =
    let (row, g, spec, k) = taking c.self.inside.plan c.self.inside.table c.self.inside.slots.items (length c.self.inside.spares.items) (vec_capacity c.self.inside.slots) (vec_capacity c.self.inside.spares) c.args.frame.0 c.args.stream.0 is_filled c.self.invariant (rw (← c.self.view_is) at c.requires) in
    let state = filled-state g.state k.passed in
    not-filled row g spec c.take_target.result c.in-Some-Waiting.field-0 _ c.in-Some-Waiting.is c.in-Some-Waiting.field-0-is (c.take_target.ensures.taken ∙ (k.parked ∙ state.held row g spec))

pub unreachable-requires-in-None : goal.unreachable-requires-in-None
unreachable-requires-in-None c =
    let (row, g, spec, k) = taking c.self.inside.plan c.self.inside.table c.self.inside.slots.items (length c.self.inside.spares.items) (vec_capacity c.self.inside.slots) (vec_capacity c.self.inside.spares) c.args.frame.0 c.args.stream.0 is_filled c.self.invariant (rw (← c.self.view_is) at c.requires) in
    let state = filled-state g.state k.passed in
    not-none (filled_for row g spec) c.take_target.result c.in-None.is (c.take_target.ensures.taken ∙ (k.parked ∙ state.held row g spec))

pub returns-clause-picture : goal.returns-clause-picture
returns-clause-picture c =
    let (row, g, spec, k) = taking c.self.inside.plan c.self.inside.table c.self.inside.slots.items (length c.self.inside.spares.items) (vec_capacity c.self.inside.slots) (vec_capacity c.self.inside.spares) c.args.frame.0 c.args.stream.0 is_filled c.self.invariant (rw (← c.self.view_is) at c.requires) in
    let state = filled-state g.state k.passed in
    rw (← c.self.view_is) (shows-job (specs_of c.self.inside.plan) c.args.frame.0 c.args.stream.0 (views c.self.inside.table.rows) row g spec c.in-Some-Filled.filled c.into_parts.result.0 c.into_parts.result.1 k.at k.target (job-of row g spec c.take_target.result c.in-Some-Filled.field-0 c.in-Some-Filled.filled c.in-Some-Filled.is c.in-Some-Filled.field-0-is (c.take_target.ensures.taken ∙ (k.parked ∙ state.held row g spec))) c.into_parts.ensures)
