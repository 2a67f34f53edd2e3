use Rattle.std.proofs.Common.{map, ◌∙◌}
use Rattle.hal_device_c.specs.Records.{target_of}
use Rattle.hal_device_c.proofs.Many.{many-error, many-mapped, many-state}
use Rattle.hal_device_c.proofs.framework.request_many.Goals as goal

pub returns-clause-answer : goal.returns-clause-answer
returns-clause-answer c =
    c.request.ensures.answer
    ∙ many-error c.args.frame.0 c.args.settings (map target_of c.args.targets.now) c.args.device.now (many-mapped c.args.targets.now c.requires)

pub returns-clause-device : goal.returns-clause-device
returns-clause-device c =
    c.request.ensures.state
    ∙ many-state c.args.frame.0 c.args.settings (map target_of c.args.targets.now) c.args.device.now (many-mapped c.args.targets.now c.requires)
