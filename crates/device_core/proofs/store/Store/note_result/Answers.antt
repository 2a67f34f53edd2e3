use Rattle.std.proofs.Common.{length, refl}
use Rattle.std.specs.Vec.{vec_capacity}
use Rattle.device_rows.specs.Rows.{row_at}
use Rattle.device_core.specs.Stored.{specs_of, views}
use Rattle.device_rows.specs.Marks.{marked}
use Rattle.device_rows.specs.declared.mark.Mark.TheVariants.{ResultError}
use Rattle.device_core.proofs.OneMark.{there, mark-by, kept-same}
use Rattle.device_core.proofs.Ops.{full-same}
use Rattle.device_core.proofs.store.Store.note_result.Goals as goal

pub invariant_of-self : goal.invariant_of-self
invariant_of-self c =
    let (row, found) = there (row_at c.args.frame.0 (views c.self.inside.table.rows)) (rw (← c.self.view_is) at c.requires) in
    let step = mark-by c.self.inside.plan c.self.inside.table c.mark.new.self c.self.inside.slots.items (length c.self.inside.spares.items) (vec_capacity c.self.inside.slots) (vec_capacity c.self.inside.spares) c.args.frame.0 ResultError row c.self.invariant found c.mark.ensures.marked (λ at. full-same (specs_of c.self.inside.plan) row (marked ResultError row) refl refl refl) (λ at. kept-same (length (specs_of c.self.inside.plan)) row (marked ResultError row) refl refl refl refl refl at.kept) (λ v. refl) refl refl in
    step.kept

pub returns : goal.returns
returns c =
    let (row, found) = there (row_at c.args.frame.0 (views c.self.inside.table.rows)) (rw (← c.self.view_is) at c.requires) in
    let step = mark-by c.self.inside.plan c.self.inside.table c.mark.new.self c.self.inside.slots.items (length c.self.inside.spares.items) (vec_capacity c.self.inside.slots) (vec_capacity c.self.inside.spares) c.args.frame.0 ResultError row c.self.invariant found c.mark.ensures.marked (λ at. full-same (specs_of c.self.inside.plan) row (marked ResultError row) refl refl refl) (λ at. kept-same (length (specs_of c.self.inside.plan)) row (marked ResultError row) refl refl refl refl refl at.kept) (λ v. refl) refl refl in
    rw (← c.self.view_is) step.is
