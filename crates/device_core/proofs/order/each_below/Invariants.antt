use Rattle.std.proofs.Common.{◌≡◌, Bool, drop}
use Rattle.cam_types.specs.declared.row.RowView.{RowView}
use Rattle.device_rows.specs.Order.{each_below}
use Rattle.device_core.specs.Stored.{views}
use Rattle.device_core.proofs.order.each_below.Given as goal

abbrev pub invariant-loop-place : goal.invariant-loop-place
invariant-loop-place g l =
    (test : RowView → Bool) → ((row : RowView) (answer : Bool) → goal.F-post g l.passes row answer → answer ≡ test row)
    → each_below l.frame.0 test (views l.table.rows) ≡ each_below l.frame.0 test (drop l.place (views l.table.rows))
