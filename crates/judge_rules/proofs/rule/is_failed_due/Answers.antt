use Rattle.judge_rules.proofs.rule.is_failed_due.Goals as goal

pub returns : goal.returns
returns c script = rw c.failed_due.ensures at c.is_due.ensures
