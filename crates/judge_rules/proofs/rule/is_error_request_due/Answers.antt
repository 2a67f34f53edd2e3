use Rattle.trace_model.specs.declared.entry.Entry.TheVariants.{ErrorRequest}
use Rattle.judge_rules.proofs.RuleLaws.{when_some}
use Rattle.judge_rules.proofs.rule.is_error_request_due.Goals as goal

pub returns : goal.returns
returns c = rw c.may_fail_request.ensures (when_some _ (ErrorRequest c.args.frame))
