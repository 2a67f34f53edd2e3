use Rattle.std.proofs.Common.{reverse}
use Rattle.judge_rules.proofs.RuleLaws.{release_rule}
use Rattle.judge_rules.proofs.rule.is_release_due.Goals as goal

pub returns : goal.returns
returns c script = rw c.releases.ensures (release_rule (reverse c.args.entries.now) c.args.buffer c.args.fence)
