use Rattle.std.proofs.Common.{◌∙◌}
use Rattle.turn_lock.proofs.Beginnings.{begins_through}
use Rattle.turn_lock.proofs.ForCallers.{idle}
use Rattle.shared_camera.proofs.workers.run_workers.Goals as goal

pub returns-clause-root : goal.returns-clause-root
returns-clause-root g c =
    let root = c.side_by_side.ensures in
    let turn = c.done_turn.ensures in
    ((turn.seat.0, idle _ _ turn.jobs root.0.1), turn.seat.1.0 ∙ root.1, turn.seat.1.1 ∙ root.2, begins_through _ _ _ root.3 turn.turn.begins)
