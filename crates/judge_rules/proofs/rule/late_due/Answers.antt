use Rattle.std.proofs.Common.{reverse}
use Rattle.judge_rules.proofs.FillLaws.{late_rule}
use Rattle.judge_rules.proofs.rule.late_due.Goals as goal

pub returns : goal.returns
returns c script digest = rw c.fills_late.ensures (late_rule script (reverse c.args.entries.now) c.args.fence digest)
