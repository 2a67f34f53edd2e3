use Rattle.std.proofs.Common.{◌∙◌, sym}
use Rattle.std.proofs.lemmas.Bool.{false≢true}
use Rattle.trace_check.proofs.filled.is_filled_due.Goals as goal

pub returns-then-is_fill_due : goal.returns-then-is_fill_due
returns-then-is_fill_due c =
    let rule = c.is_fill_due.ensures c.args.fill.digest in
    (λ h. rule.0 (c.if-is_fill_due.true, c.is_its_digest.ensures.0 h), λ h. c.is_its_digest.ensures.1 (rule.1 h).1)

pub returns-else-is_fill_due : goal.returns-else-is_fill_due
returns-else-is_fill_due c =
    let rule = c.is_fill_due.ensures c.args.fill.digest in
    (λ h. absurd (false≢true h), λ h. absurd (false≢true (sym c.if-is_fill_due.false ∙ (rule.1 h).0)))
