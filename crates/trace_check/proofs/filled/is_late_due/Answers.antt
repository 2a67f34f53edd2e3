use Rattle.std.proofs.lemmas.Bool.{false≢true}
use Rattle.trace_check.proofs.filled.is_late_due.Goals as goal

pub returns-in-Some : goal.returns-in-Some
returns-in-Some c =
    let rule = c.in-Some.ensures c.args.script.now c.args.digest in
    (λ h. rule.0 (c.is_its_digest.ensures.0 h), λ h. c.is_its_digest.ensures.1 (rule.1 h))

pub returns-in-None : goal.returns-in-None
returns-in-None c =
    let rule = c.in-None.ensures c.args.script.now c.args.digest in
    (λ h. absurd (false≢true h), λ h. absurd (rule.1 h))
