use Rattle.std.proofs.Common.{◌≡◌}
use Rattle.arbiter_call.specs.Log.{held}
use Rattle.arbiter_call.proofs.SessionLists.{held_from}
use Rattle.arbiter_call.proofs.arbiter.session_by.Given as goal

-- the client's camera is one of those that are left
abbrev pub invariant-loop-camera : goal.invariant-loop-camera
invariant-loop-camera l = held_from l.cameras l.client.0 l.log l.camera ≡ held l.cameras l.client.0 l.log
