use Rattle.std.proofs.Common.{length, refl}
use Rattle.std.specs.Vec.{vec_capacity}
use Rattle.device_rows.specs.Rows.{row_at}
use Rattle.device_core.specs.Stored.{specs_of, views}
use Rattle.device_rows.specs.declared.mark.Mark.TheVariants.{Announced}
use Rattle.std.proofs.lemmas.Bool.{and_parts}
use Rattle.device_core.specs.Kept.{agree, is_placed}
use Rattle.device_core.proofs.Admission.{rise-apart}
use Rattle.device_core.proofs.Agree.{placed-parts}
use Rattle.device_core.proofs.OneMark.{lit, mark-by, kept-announced}
use Rattle.device_core.proofs.Ops.{announced-full}
use Rattle.device_core.proofs.store.Store.announce.Goals as goal

pub invariant_of-self : goal.invariant_of-self
invariant_of-self c =
    let (row, found, shone) = lit (row_at c.args.frame.0 (views c.self.inside.table.rows)) (rw (← c.self.view_is) at c.requires) in
    let step = mark-by c.self.inside.plan c.self.inside.table c.mark.new.self c.self.inside.slots.items (length c.self.inside.spares.items) (vec_capacity c.self.inside.slots) (vec_capacity c.self.inside.spares) c.args.frame.0 (Announced c.args.stream) row c.self.invariant found c.mark.ensures.marked (λ at. announced-full (specs_of c.self.inside.plan) row c.args.stream (rise-apart row.targets.a row.targets.b row.targets.c row.targets.d 0 (length (specs_of c.self.inside.plan)) (placed-parts (length (specs_of c.self.inside.plan)) row (and_parts (is_placed (length (specs_of c.self.inside.plan)) row) (agree row) at.kept).0).rise)) (λ at. kept-announced (length (specs_of c.self.inside.plan)) row c.args.stream shone at.kept) (λ v. refl) refl refl in
    step.kept

pub returns : goal.returns
returns c =
    let (row, found, shone) = lit (row_at c.args.frame.0 (views c.self.inside.table.rows)) (rw (← c.self.view_is) at c.requires) in
    let step = mark-by c.self.inside.plan c.self.inside.table c.mark.new.self c.self.inside.slots.items (length c.self.inside.spares.items) (vec_capacity c.self.inside.slots) (vec_capacity c.self.inside.spares) c.args.frame.0 (Announced c.args.stream) row c.self.invariant found c.mark.ensures.marked (λ at. announced-full (specs_of c.self.inside.plan) row c.args.stream (rise-apart row.targets.a row.targets.b row.targets.c row.targets.d 0 (length (specs_of c.self.inside.plan)) (placed-parts (length (specs_of c.self.inside.plan)) row (and_parts (is_placed (length (specs_of c.self.inside.plan)) row) (agree row) at.kept).0).rise)) (λ at. kept-announced (length (specs_of c.self.inside.plan)) row c.args.stream shone at.kept) (λ v. refl) refl refl in
    rw (← c.self.view_is) step.is
