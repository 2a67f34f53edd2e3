use Rattle.std.proofs.Common.{◌≡◌, Some, length, refl, sym, ◌∙◌, ap}
use Rattle.std.specs.Vec.{vec_capacity}
use Rattle.cam_types.specs.declared.job.JobView.{JobView}
use Rattle.cam_types.specs.declared.row.RowView.{RowView}
use Rattle.device_rows.specs.Rows.{row_at}
use Rattle.device_core.specs.Held.{as_exposed}
use Rattle.device_core.specs.Stored.{views}
use Rattle.device_core.specs.declared.readouts.Slot.TheVariants.{Home}
use Rattle.device_core.proofs.Moves.{home-moved}
use Rattle.device_core.proofs.Outs.{job-row, some-same}
use Rattle.device_core.proofs.Steps.{slot-within}
use Rattle.device_core.proofs.store.Store.take_exposed.Goals as goal

pub find_row-place-requires : goal.find_row-place-requires
find_row-place-requires c =
    let (row, found, out, job) = job-row (row_at c.args.job.frame.0 (views c.self.inside.table.rows)) c.args.job (rw (← c.self.view_is) at c.requires) in
    rw (c.frame-frame.ensures.number, found) refl

pub swap_slot-requires : goal.swap_slot-requires
swap_slot-requires c =
    slot-within c.self.inside.table.rows c.find_row-place.result.0 c.find_row-place.result.1 c.self.inside.slots.items c.self.invariant.shown c.find_row-place.ensures.placed

pub invariant_of-self : goal.invariant_of-self
invariant_of-self c =
    let (row, found, out, job) = job-row (row_at c.args.job.frame.0 (views c.self.inside.table.rows)) c.args.job (rw (← c.self.view_is) at c.requires) in
    let found' : row_at c.frame-frame.result.0 (views c.self.inside.table.rows) ≡ Some row = rw c.frame-frame.ensures.number found in
    let same = some-same row c.find_row-place.result.1 _ found' c.find_row-place.ensures.found in
    let filled = ap (λ (z : JobView). Home z) (c.of_exposed-home.ensures ∙ (ap (λ (z : JobView). as_exposed z) (sym job))) in
    (home-moved c.self.inside.plan c.self.inside.table c.mark.new.self c.self.inside.slots.items c.swap_slot.new.slots.items (length c.self.inside.spares.items) (vec_capacity c.self.inside.slots) (vec_capacity c.swap_slot.new.slots) (vec_capacity c.self.inside.spares) c.frame-frame.result.0 c.find_row-place.result.0 row (Home c.of_exposed-home.result) c.self.invariant found' out (c.find_row-place.ensures.placed ∙ ap (λ (z : RowView). Some z) (sym same)) (ap (λ (z : RowView). z.frame.0) same ∙ c.find_row-place.ensures.own) filled c.swap_slot.ensures.new c.mark.ensures.marked c.swap_slot.ensures.capacity).kept

pub returns : goal.returns
returns c =
    let (row, found, out, job) = job-row (row_at c.args.job.frame.0 (views c.self.inside.table.rows)) c.args.job (rw (← c.self.view_is) at c.requires) in
    let found' : row_at c.frame-frame.result.0 (views c.self.inside.table.rows) ≡ Some row = rw c.frame-frame.ensures.number found in
    let same = some-same row c.find_row-place.result.1 _ found' c.find_row-place.ensures.found in
    let filled = ap (λ (z : JobView). Home z) (c.of_exposed-home.ensures ∙ (ap (λ (z : JobView). as_exposed z) (sym job))) in
    rw (← c.self.view_is, ← c.frame-frame.ensures.number) (home-moved c.self.inside.plan c.self.inside.table c.mark.new.self c.self.inside.slots.items c.swap_slot.new.slots.items (length c.self.inside.spares.items) (vec_capacity c.self.inside.slots) (vec_capacity c.swap_slot.new.slots) (vec_capacity c.self.inside.spares) c.frame-frame.result.0 c.find_row-place.result.0 row (Home c.of_exposed-home.result) c.self.invariant found' out (c.find_row-place.ensures.placed ∙ ap (λ (z : RowView). Some z) (sym same)) (ap (λ (z : RowView). z.frame.0) same ∙ c.find_row-place.ensures.own) filled c.swap_slot.ensures.new c.mark.ensures.marked c.swap_slot.ensures.capacity).is
