use Rattle.turn_lock.proofs.ForCallers.{idle}
use Rattle.turn_lock.proofs.share.add_once.Goals as goal

pub returns-clause-done : goal.returns-clause-done
returns-clause-done g c = let turn = c.add_turn.ensures in ((turn.seat.0, idle _ _ turn.jobs c.requires.1), turn.seat.1)
