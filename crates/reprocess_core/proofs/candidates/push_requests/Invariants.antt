use Rattle.std.proofs.Common.{◌≡◌, ◌++◌}
use Rattle.reprocess_model.specs.Run.{for_requests}
use Rattle.reprocess_core.specs.Device.{request_step}
use Rattle.reprocess_core.proofs.candidates.push_requests.Given as goal

abbrev pub invariant-loop-request : goal.invariant-loop-request
invariant-loop-request l = l.steps.items ≡ l.initial.steps.items ++ for_requests (request_step l.kind) l.request
