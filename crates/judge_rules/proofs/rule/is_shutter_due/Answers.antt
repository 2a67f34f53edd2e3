use Rattle.std.proofs.Common.{reverse}
use Rattle.judge_rules.proofs.RuleLaws.{shutter_rule}
use Rattle.judge_rules.proofs.rule.is_shutter_due.Goals as goal

pub returns : goal.returns
returns c = rw c.exposes.ensures (shutter_rule c.args.script.now (reverse c.args.entries.now) c.args.frame c.args.time)
