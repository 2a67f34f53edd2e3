use Rattle.judge_rules.proofs.RuleLaws.{some_same, none_due}
use Rattle.judge_rules.proofs.same.is_due.Goals as goal

pub returns-in-Some : goal.returns-in-Some
returns-in-Some c = rw c.in-Some.is (some_same _ _ _ c.is_same_entry.ensures)

pub returns-in-None : goal.returns-in-None
returns-in-None c = rw c.in-None.is (none_due c.args.entry)
