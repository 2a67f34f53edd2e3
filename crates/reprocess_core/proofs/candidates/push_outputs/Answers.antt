use Rattle.reprocess_core.specs.Device.{output_step}
use Rattle.reprocess_core.proofs.Listed.{more_outputs}
use Rattle.reprocess_core.proofs.candidates.push_outputs.Goals as goal

pub loop-request-preserved : goal.loop-request-preserved
loop-request-preserved c =
    let more = more_outputs c.args.steps.now.items (output_step c.args.kind) c.loop-request.request in
    cc (more, c.in_ok-push.ensures.items, c.in_ok-push-2.ensures.items, c.in_ok-push-3.ensures.items, c.output_step.ensures, c.output_step-in-loop-request.ensures, c.output_step-in-loop-request-2.ensures, c.loop-request.invariant)
