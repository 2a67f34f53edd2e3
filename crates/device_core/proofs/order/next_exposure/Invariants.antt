use Rattle.std.proofs.Common.{◌≡◌, drop}
use Rattle.device_rows.specs.Ready.{next_exposure}
use Rattle.device_core.specs.Stored.{views}
use Rattle.device_core.proofs.order.next_exposure.Given as goal

abbrev pub invariant-loop-place : goal.invariant-loop-place
invariant-loop-place l = next_exposure (views l.table.rows) ≡ next_exposure (drop l.place (views l.table.rows))
