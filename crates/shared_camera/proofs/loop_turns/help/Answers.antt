use Rattle.turn_lock.proofs.Beginnings.{begins_through}
use Rattle.shared_camera.proofs.loop_turns.help.Goals as goal

pub returns-else-step-clause-begins : goal.returns-else-step-clause-begins
returns-else-step-clause-begins g c = begins_through _ _ _ c.step.ensures.begins c.expose.ensures.begins
