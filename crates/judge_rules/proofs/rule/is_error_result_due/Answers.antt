use Rattle.trace_model.specs.declared.entry.Entry.TheVariants.{ErrorResult}
use Rattle.judge_rules.proofs.RuleLaws.{when_some}
use Rattle.judge_rules.proofs.rule.is_error_result_due.Goals as goal

pub returns : goal.returns
returns c = rw c.may_fail_result.ensures (when_some _ (ErrorResult c.args.frame))
