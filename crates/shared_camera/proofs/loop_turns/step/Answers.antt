use Rattle.turn_lock.proofs.ForCallers.{idle}
use Rattle.shared_camera.proofs.loop_turns.step.Goals as goal

pub returns-in-Did-clause-done : goal.returns-in-Did-clause-done
returns-in-Did-clause-done g c = let turn = c.step_turn-answer.ensures in ((turn.seat.0, idle _ _ turn.jobs c.requires.idle.1), turn.seat.1)

pub returns-in_default-clause-done : goal.returns-in_default-clause-done
returns-in_default-clause-done g c = let turn = c.step_turn-answer.ensures in ((turn.seat.0, idle _ _ turn.jobs c.requires.idle.1), turn.seat.1)
