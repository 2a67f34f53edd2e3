use Rattle.std.proofs.Common.{◌≡◌, Some, length, refl, sym, ◌∙◌, ap}
use Rattle.std.specs.Vec.{vec_capacity}
use Rattle.cam_types.specs.declared.row.RowView.{RowView}
use Rattle.device_rows.specs.Rows.{target_at}
use Rattle.device_core.specs.Steps.{is_in_fill}
use Rattle.device_core.proofs.Moves.{early-moved}
use Rattle.device_core.proofs.Outs.{out-state, some-none, some-same, taking}
use Rattle.device_core.proofs.Views.{find-views}
use Rattle.device_core.proofs.store.Store.note_early.Goals as goal

pub invariant_of-self : goal.invariant_of-self
invariant_of-self c =
    let (row, g, spec, k) = taking c.self.inside.plan c.self.inside.table c.self.inside.slots.items (length c.self.inside.spares.items) (vec_capacity c.self.inside.slots) (vec_capacity c.self.inside.spares) c.args.frame.0 c.args.stream.0 is_in_fill c.self.invariant (rw (← c.self.view_is) at c.requires) in
    (early-moved c.self.inside.plan c.self.inside.table c.mark.new.self c.self.inside.slots.items (length c.self.inside.spares.items) (vec_capacity c.self.inside.slots) (vec_capacity c.self.inside.spares) c.args.frame.0 c.args.stream row g spec c.self.invariant k.stands k.target (out-state g.state k.passed) c.mark.ensures.marked).kept

pub returns-clause-rows : goal.returns-clause-rows
returns-clause-rows c =
    let (row, g, spec, k) = taking c.self.inside.plan c.self.inside.table c.self.inside.slots.items (length c.self.inside.spares.items) (vec_capacity c.self.inside.slots) (vec_capacity c.self.inside.spares) c.args.frame.0 c.args.stream.0 is_in_fill c.self.invariant (rw (← c.self.view_is) at c.requires) in
    rw (← c.self.view_is) (early-moved c.self.inside.plan c.self.inside.table c.mark.new.self c.self.inside.slots.items (length c.self.inside.spares.items) (vec_capacity c.self.inside.slots) (vec_capacity c.self.inside.spares) c.args.frame.0 c.args.stream row g spec c.self.invariant k.stands k.target (out-state g.state k.passed) c.mark.ensures.marked).is

pub unreachable-requires : goal.unreachable-requires
unreachable-requires c =
    let (row, g, spec, k) = taking c.self.inside.plan c.self.inside.table c.self.inside.slots.items (length c.self.inside.spares.items) (vec_capacity c.self.inside.slots) (vec_capacity c.self.inside.spares) c.args.frame.0 c.args.stream.0 is_in_fill c.self.invariant (rw (← c.self.view_is) at c.requires) in
    some-none row _ (find-views c.args.frame.0 c.self.inside.table.rows ∙ (sym c.view.ensures.value ∙ c.in_default.is)) k.at

pub unreachable-requires-in_default-target_at : goal.unreachable-requires-in_default-target_at
unreachable-requires-in_default-target_at c =
    let (row, g, spec, k) = taking c.self.inside.plan c.self.inside.table c.self.inside.slots.items (length c.self.inside.spares.items) (vec_capacity c.self.inside.slots) (vec_capacity c.self.inside.spares) c.args.frame.0 c.args.stream.0 is_in_fill c.self.invariant (rw (← c.self.view_is) at c.requires) in
    let same = some-same row c.in-Some.row _ k.at (find-views c.args.frame.0 c.self.inside.table.rows ∙ (sym c.view.ensures.value ∙ c.in-Some.is)) in
    some-none g _ (ap (λ (z : RowView). target_at c.args.stream.0 z) same ∙ (sym c.target_at.ensures ∙ c.in_default-target_at.is)) k.target.found

pub returns-clause-buffer : goal.returns-clause-buffer
returns-clause-buffer c =
    let (row, g, spec, k) = taking c.self.inside.plan c.self.inside.table c.self.inside.slots.items (length c.self.inside.spares.items) (vec_capacity c.self.inside.slots) (vec_capacity c.self.inside.spares) c.args.frame.0 c.args.stream.0 is_in_fill c.self.invariant (rw (← c.self.view_is) at c.requires) in
    let same = some-same row c.in-Some.row _ k.at (find-views c.args.frame.0 c.self.inside.table.rows ∙ (sym c.view.ensures.value ∙ c.in-Some.is)) in
    let there : target_at c.args.stream.0 row ≡ Some c.in-Some-target_at.target = ap (λ (z : RowView). target_at c.args.stream.0 z) same ∙ (sym c.target_at.ensures ∙ c.in-Some-target_at.is) in
    rw (← c.self.view_is, k.at, there) refl
