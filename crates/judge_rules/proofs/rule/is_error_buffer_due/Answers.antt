use Rattle.trace_model.specs.declared.entry.Entry.TheVariants.{ErrorBuffer}
use Rattle.judge_rules.proofs.RuleLaws.{when_some}
use Rattle.judge_rules.proofs.rule.is_error_buffer_due.Goals as goal

pub returns : goal.returns
returns c = rw c.may_fail_buffer.ensures (when_some _ (ErrorBuffer c.args.frame c.args.stream))
