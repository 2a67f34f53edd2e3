use Rattle.std.proofs.Common.{◌∙◌, ap, not, reverse}
use Rattle.judge_rules.proofs.FillLaws.{fill_rule}
use Rattle.judge_rules.proofs.rule.is_fill_due.Goals as goal

pub returns-then-is_none : goal.returns-then-is_none
returns-then-is_none c digest =
    let none = c.is_none.ensures ∙ ap not c.if-is_none.true in
    rw c.delivers.ensures (rw none at (fill_rule c.args.script.now (reverse c.args.entries.now) c.args.frame c.args.stream c.args.buffer c.args.fence digest))

pub returns-else-is_none : goal.returns-else-is_none
returns-else-is_none c digest =
    let some = c.is_none.ensures ∙ ap not c.if-is_none.false in
    rw c.if-is_none.false (rw some at (fill_rule c.args.script.now (reverse c.args.entries.now) c.args.frame c.args.stream c.args.buffer c.args.fence digest))
