use Rattle.std.proofs.Common.{sym, ◌∙◌, ap}
use Rattle.device_rows.specs.Ready.{next_exposure}
use Rattle.device_core.specs.Stored.{views}
use Rattle.device_core.proofs.Turns.{exposure-here, exposure-later, view-at}
use Rattle.device_core.proofs.General.{drop-over}
use Rattle.device_core.proofs.order.next_exposure.Goals.{in-Some+else-is_unexposed, in_default}
use Rattle.device_core.proofs.order.next_exposure.Goals as goal

pub returns-then-is_unexposed-clause-next : goal.returns-then-is_unexposed-clause-next
returns-then-is_unexposed-clause-next c =
    sym (c.loop-place.invariant ∙ exposure-here (views c.args.table.now.rows) c.loop-place.place c.in-Some.row (view-at c.args.table.now.rows c.loop-place.place _ (sym c.at.ensures.value ∙ c.in-Some.is)) (sym c.is_unexposed.ensures ∙ c.if-is_unexposed.true))

pub loop-place-preserved : goal.loop-place-preserved
loop-place-preserved c =
    elim c.match-at.branch [
      | in-Some+else-is_unexposed w ↦ c.loop-place.invariant ∙ exposure-later (views c.args.table.now.rows) c.loop-place.place w.in-Some.row (view-at c.args.table.now.rows c.loop-place.place _ (sym c.at.ensures.value ∙ w.in-Some.is)) (sym w.is_unexposed.ensures ∙ w.if-is_unexposed.false)
      | in_default w ↦ c.loop-place.invariant ∙ sym (ap next_exposure (drop-over (views c.args.table.now.rows) c.loop-place.place (view-at c.args.table.now.rows c.loop-place.place _ (sym c.at.ensures.value ∙ w.in_default.is))))
    ]
