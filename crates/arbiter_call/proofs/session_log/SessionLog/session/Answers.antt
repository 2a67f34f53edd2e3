use Rattle.std.proofs.Common.{reverse}
use Rattle.arbiter_call.proofs.SessionLists.{camera-at, read-at}
use Rattle.arbiter_call.proofs.session_log.SessionLog.session.Goals as goal

pub returns-clause-value : goal.returns-clause-value
returns-clause-value c = read-at _ _ _ _ c.self.invariant.table c.self.view_is c.requires

pub returns-clause-camera : goal.returns-clause-camera
returns-clause-camera c = camera-at _ _ _ _ c.self.invariant.table c.self.view_is c.requires
