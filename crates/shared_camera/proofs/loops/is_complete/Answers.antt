use Rattle.turn_lock.proofs.ForCallers.{idle}
use Rattle.shared_camera.proofs.loops.is_complete.Goals as goal

pub returns-clause-done : goal.returns-clause-done
returns-clause-done g c = let turn = c.done_turn.ensures in ((turn.seat.0, idle _ _ turn.jobs c.requires.1), turn.seat.1)
