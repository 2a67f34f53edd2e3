use Rattle.std.proofs.lemmas.Grind.{common_steps}
use Rattle.std.proofs.Common.{arith}
use Rattle.shared_camera.proofs.Outs.{none-out}
use Rattle.shared_camera.proofs.shared.Shared.new.Goals as goal

pub new-requires-clause-idle : goal.new-requires-clause-idle
new-requires-clause-idle c = none-out c.args.service.script c.args.service.history c.is_a_run.ensures.run c.requires

pub new-requires-clause-count : goal.new-requires-clause-count
new-requires-clause-count c = grind (arith, common_steps)
