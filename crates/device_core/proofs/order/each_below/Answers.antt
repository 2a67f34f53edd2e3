use Rattle.std.proofs.Common.{sym, ◌∙◌, ap, arith}
use Rattle.std.proofs.lemmas.Bool.Decides.{nat_tests}
use Rattle.device_rows.specs.Order.{each_below}
use Rattle.device_core.specs.Stored.{views}
use Rattle.device_core.proofs.General.{drop-over}
use Rattle.device_core.proofs.Turns.{below-fails, below-over, below-passes, view-at}
use Rattle.device_core.proofs.order.each_below.Goals.{in-Some+else-row-frame+else-not-passes, in_default}
use Rattle.device_core.proofs.order.each_below.Goals as goal

pub returns-then-row-frame : goal.returns-then-row-frame
returns-then-row-frame g c test is =
    sym (c.loop-place.invariant test is ∙ below-over (views c.args.table.now.rows) c.loop-place.place c.in-Some.row c.args.frame.0 test c.requires.order (view-at c.args.table.now.rows c.loop-place.place _ (sym c.at.ensures.value ∙ c.in-Some.is)) (grind (arith, nat_tests, c.if-row-frame.true)))

pub returns-then-not-passes : goal.returns-then-not-passes
returns-then-not-passes g c test is =
    sym (c.loop-place.invariant test is ∙ below-fails (views c.args.table.now.rows) c.loop-place.place c.in-Some.row c.args.frame.0 test (view-at c.args.table.now.rows c.loop-place.place _ (sym c.at.ensures.value ∙ c.in-Some.is)) (grind (arith, nat_tests, c.if-row-frame.false)) (sym (is c.in-Some.row c.passes.result c.passes.ensures) ∙ c.if-not-passes.true))

pub loop-place-preserved : goal.loop-place-preserved
loop-place-preserved g c test is =
    elim c.match-at.branch [
      | in-Some+else-row-frame+else-not-passes w ↦ c.loop-place.invariant test is ∙ below-passes (views c.args.table.now.rows) c.loop-place.place w.in-Some.row c.args.frame.0 test (view-at c.args.table.now.rows c.loop-place.place _ (sym c.at.ensures.value ∙ w.in-Some.is)) (sym (is w.in-Some.row w.passes.result w.passes.ensures) ∙ w.if-not-passes.false)
      | in_default w ↦ c.loop-place.invariant test is ∙ sym (ap (λ rows. each_below c.args.frame.0 test rows) (drop-over (views c.args.table.now.rows) c.loop-place.place (view-at c.args.table.now.rows c.loop-place.place _ (sym c.at.ensures.value ∙ w.in_default.is))))
    ]
