use Rattle.std.proofs.Common.{◌&&◌, ◌||◌, not, length, sym, ◌∙◌}
use Rattle.std.specs.Vec.{vec_capacity}
use Rattle.std.proofs.lemmas.Bool.{and_parts}
use Rattle.cam_types.specs.declared.row.TargetState.TheVariants.{Waiting, Filled}
use Rattle.device_rows.specs.Ready.{is_sensor_out, is_same_state, may_return_failed}
use Rattle.device_rows.specs.Rows.{row_at}
use Rattle.device_core.specs.Steps.{has_made}
use Rattle.device_core.specs.Stored.{specs_of, views}
use Rattle.buffer_pool.specs.Fences.{made}
use Rattle.device_core.proofs.Moves.{failed-moved}
use Rattle.device_core.proofs.Ops.{met-too}
use Rattle.device_core.proofs.Outs.{back-at, failing-held, made-held, taking}
use Rattle.device_core.proofs.store.Store.take_failed.Goals as goal

pub invariant_of-self : goal.invariant_of-self
invariant_of-self c =
    let (row, g, spec, k) = taking c.self.inside.plan c.self.inside.table c.self.inside.slots.items (length c.self.inside.spares.items) (vec_capacity c.self.inside.slots) (vec_capacity c.self.inside.spares) c.args.frame.0 c.args.stream.0 may_return_failed c.self.invariant (rw (← c.self.view_is) at c.requires.failed) in
    (failed-moved c.self.inside.plan c.self.inside.table c.take_target.new.self c.mark.new.self c.self.inside.slots.items (length c.self.inside.spares.items) (vec_capacity c.self.inside.slots) (vec_capacity c.self.inside.spares) c.args.frame.0 c.args.stream row g c.self.invariant k.at k.target.found k.passed c.take_target.ensures.left c.mark.ensures.marked).kept

pub returns-clause-rows : goal.returns-clause-rows
returns-clause-rows c =
    let (row, g, spec, k) = taking c.self.inside.plan c.self.inside.table c.self.inside.slots.items (length c.self.inside.spares.items) (vec_capacity c.self.inside.slots) (vec_capacity c.self.inside.spares) c.args.frame.0 c.args.stream.0 may_return_failed c.self.invariant (rw (← c.self.view_is) at c.requires.failed) in
    rw (← c.self.view_is) (failed-moved c.self.inside.plan c.self.inside.table c.take_target.new.self c.mark.new.self c.self.inside.slots.items (length c.self.inside.spares.items) (vec_capacity c.self.inside.slots) (vec_capacity c.self.inside.spares) c.args.frame.0 c.args.stream row g c.self.invariant k.at k.target.found k.passed c.take_target.ensures.left c.mark.ensures.marked).is

pub unreachable-requires : goal.unreachable-requires
unreachable-requires c =
    let (row, g, spec, k) = taking c.self.inside.plan c.self.inside.table c.self.inside.slots.items (length c.self.inside.spares.items) (vec_capacity c.self.inside.slots) (vec_capacity c.self.inside.spares) c.args.frame.0 c.args.stream.0 may_return_failed c.self.invariant (rw (← c.self.view_is) at c.requires.failed) in
    let parts = and_parts (row.request_error || g.announced) (not (is_sensor_out row.sensor) && (is_same_state g.state Waiting || is_same_state g.state Filled)) k.passed in
    let state = (and_parts (not (is_sensor_out row.sensor)) (is_same_state g.state Waiting || is_same_state g.state Filled) parts.1).1 in
    failing-held g.state row g spec state (sym k.parked ∙ (sym c.take_target.ensures.taken ∙ c.in_default.is))

pub unpack-requires : goal.unpack-requires
unpack-requires c =
    let (row, g, spec, k) = taking c.self.inside.plan c.self.inside.table c.self.inside.slots.items (length c.self.inside.spares.items) (vec_capacity c.self.inside.slots) (vec_capacity c.self.inside.spares) c.args.frame.0 c.args.stream.0 may_return_failed c.self.invariant (rw (← c.self.view_is) at c.requires.failed) in
    let parts = and_parts (row.request_error || g.announced) (not (is_sensor_out row.sensor) && (is_same_state g.state Waiting || is_same_state g.state Filled)) k.passed in
    let state = (and_parts (not (is_sensor_out row.sensor)) (is_same_state g.state Waiting || is_same_state g.state Filled) parts.1).1 in
    let made' = met-too (has_made (made c.args.fences.now)) c.args.stream.0 (row_at c.args.frame.0 (views c.self.inside.table.rows)) row g k.at k.target.found (rw (← c.self.view_is) at c.requires.made) in
    made-held g.state row g spec (made c.args.fences.now) c.in-Some.held state made' (sym k.parked ∙ (sym c.take_target.ensures.taken ∙ c.in-Some.is))

pub returns-clause-parked : goal.returns-clause-parked
returns-clause-parked c =
    let (row, g, spec, k) = taking c.self.inside.plan c.self.inside.table c.self.inside.slots.items (length c.self.inside.spares.items) (vec_capacity c.self.inside.slots) (vec_capacity c.self.inside.spares) c.args.frame.0 c.args.stream.0 may_return_failed c.self.invariant (rw (← c.self.view_is) at c.requires.failed) in
    let parts = and_parts (row.request_error || g.announced) (not (is_sensor_out row.sensor) && (is_same_state g.state Waiting || is_same_state g.state Filled)) k.passed in
    let state = (and_parts (not (is_sensor_out row.sensor)) (is_same_state g.state Waiting || is_same_state g.state Filled) parts.1).1 in
    rw (← c.self.view_is) (back-at (specs_of c.self.inside.plan) c.args.frame.0 c.args.stream.0 (views c.self.inside.table.rows) row g spec c.args.fences.now c.in-Some.held c.unpack.result k.at k.target state (sym k.parked ∙ (sym c.take_target.ensures.taken ∙ c.in-Some.is)) c.unpack.ensures.parked)
