use Rattle.std.proofs.Common.{◌∙◌, ◌+◌, reverse, sym}
use Rattle.std.proofs.lemmas.Bool.Decides.{Decides-eqb}
use Rattle.trace_model.specs.Partial.{partial_count}
use Rattle.judge_rules.proofs.RuleLaws.{next_part, no_other_part}
use Rattle.judge_rules.proofs.rule.is_partial_due.Goals as goal

pub returns-then-is_next_part : goal.returns-then-is_next_part
returns-then-is_next_part c =
    next_part c.args.script.now (reverse c.args.entries.now) c.args.frame c.args.number c.args.part _ ((Decides-eqb (partial_count c.args.frame.0 (reverse c.args.entries.now) + 1) c.args.number).0 (sym c.is_next_part.ensures ∙ c.if-is_next_part.true)) (rw c.part_numbered.ensures at c.is_due.ensures)

pub returns-else-is_next_part : goal.returns-else-is_next_part
returns-else-is_next_part c =
    rw c.if-is_next_part.false (no_other_part c.args.script.now (reverse c.args.entries.now) c.args.frame c.args.number c.args.part (sym c.is_next_part.ensures ∙ c.if-is_next_part.false))
