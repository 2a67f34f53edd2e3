use Rattle.trace_model.specs.declared.entry.Entry.TheVariants.{ErrorDevice}
use Rattle.judge_rules.proofs.RuleLaws.{when_some}
use Rattle.judge_rules.proofs.rule.is_error_device_due.Goals as goal

pub returns : goal.returns
returns c = rw c.may_fail_device.ensures (when_some _ ErrorDevice)
