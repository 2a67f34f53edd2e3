use Rattle.std.proofs.Common.{◌∙◌, refl, reverse, sym, ap}
use Rattle.judge_rules.specs.Rules.{is_named}
use Rattle.judge_rules.proofs.RuleLaws.{drop_by}
use Rattle.judge_rules.proofs.rule.is_dropped_due.Goals as goal

pub returns-then-is_stopping : goal.returns-then-is_stopping
returns-then-is_stopping c =
    let past = reverse c.args.entries.now in
    let named = c.is_named.ensures ∙ ap (λ o. is_named past o c.args.frame.0 c.args.request.0 c.args.item) c.first_queued.ensures in
    drop_by c.args.script.now past c.args.frame c.args.request c.args.item _ _ (sym c.if-is_stopping.true ∙ c.is_stopping.ensures) named

pub returns-else-is_stopping : goal.returns-else-is_stopping
returns-else-is_stopping c =
    rw c.if-is_stopping.false (drop_by c.args.script.now (reverse c.args.entries.now) c.args.frame c.args.request c.args.item _ _ (sym c.if-is_stopping.false ∙ c.is_stopping.ensures) refl)
