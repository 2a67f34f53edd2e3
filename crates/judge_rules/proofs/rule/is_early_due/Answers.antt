use Rattle.std.proofs.Common.{◌∙◌, reverse, sym}
use Rattle.judge_rules.proofs.FillLaws.{early_rule}
use Rattle.judge_rules.proofs.rule.is_early_due.Goals as goal

pub returns-then-is_next_early : goal.returns-then-is_next_early
returns-then-is_next_early c =
    let next = sym c.is_next_early.ensures ∙ c.if-is_next_early.true in
    rw c.delivers.ensures (rw next at (early_rule c.args.script.now (reverse c.args.entries.now) c.args.frame c.args.stream c.args.buffer c.args.fence))

pub returns-else-is_next_early : goal.returns-else-is_next_early
returns-else-is_next_early c =
    let other = sym c.is_next_early.ensures ∙ c.if-is_next_early.false in
    rw c.if-is_next_early.false (rw other at (early_rule c.args.script.now (reverse c.args.entries.now) c.args.frame c.args.stream c.args.buffer c.args.fence))
