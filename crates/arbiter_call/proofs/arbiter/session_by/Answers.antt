use Rattle.arbiter_call.proofs.SessionLists.{at-its, found-at, goes-on}
use Rattle.arbiter_call.proofs.arbiter.session_by.Goals as goal

pub returns-in-Some : goal.returns-in-Some
returns-in-Some c =
    let session = c.in-Some.ensures.session in
    (found-at c.args.cameras c.args.client.0 c.args.log.now c.loop-camera.camera c.in-Some.session.camera.0 c.loop-camera-test.true c.in-Some.ensures.own session.0 c.loop-camera.invariant, at-its c.args.log.now c.loop-camera.camera c.in-Some.session session.0 session.1)

pub loop-camera-preserved : goal.loop-camera-preserved
loop-camera-preserved c =
    goes-on c.args.cameras c.args.client.0 c.args.log.now c.loop-camera.camera c.loop-camera-test.true c.in_default.ensures.other c.loop-camera.invariant
