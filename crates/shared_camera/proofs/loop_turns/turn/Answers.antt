use Rattle.turn_lock.proofs.Beginnings.{begins_through}
use Rattle.shared_camera.proofs.loop_turns.turn.Goals as goal

pub returns-else-help-clause-begins : goal.returns-else-help-clause-begins
returns-else-help-clause-begins g c = begins_through _ _ _ c.help.ensures.begins c.fill.ensures.begins
