use Rattle.judge_rules.proofs.rule.is_begin_due.Goals as goal

pub returns : goal.returns
returns c = rw c.begin_due.ensures at c.is_due.ensures
