use Rattle.reprocess_core.specs.Device.{request_step}
use Rattle.reprocess_core.proofs.Listed.{more_requests}
use Rattle.reprocess_core.proofs.candidates.push_requests.Goals as goal

pub loop-request-preserved : goal.loop-request-preserved
loop-request-preserved c =
    let more = more_requests c.args.steps.now.items (request_step c.args.kind) c.loop-request.request in
    cc (more, c.in_ok-push.ensures.items, c.request_step.ensures, c.loop-request.invariant)
