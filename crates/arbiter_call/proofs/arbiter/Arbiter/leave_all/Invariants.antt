use Rattle.arbiter_call.proofs.Closing.{IsLeft}
use Rattle.arbiter_call.proofs.arbiter.Arbiter.leave_all.Given as goal

abbrev pub invariant-loop-camera : goal.invariant-loop-camera
invariant-loop-camera l = IsLeft l.initial.self l.self l.camera
