use Rattle.std.proofs.Common.{◌≡◌, ◌++◌}
use Rattle.reprocess_model.specs.Run.{for_outputs}
use Rattle.reprocess_core.specs.Device.{output_step}
use Rattle.reprocess_core.proofs.candidates.push_outputs.Given as goal

abbrev pub invariant-loop-request : goal.invariant-loop-request
invariant-loop-request l = l.steps.items ≡ l.initial.steps.items ++ for_outputs (output_step l.kind) l.request
