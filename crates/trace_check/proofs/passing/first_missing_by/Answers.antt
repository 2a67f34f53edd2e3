use Rattle.std.proofs.Common.{◌∙◌, ap, reverse}
use Rattle.judge_rows.specs.Judged.{Judged}
use Rattle.trace_check.specs.Held.{missing_in}
use Rattle.trace_check.proofs.Holding.{missing_is}
use Rattle.trace_check.proofs.passing.first_missing_by.Goals as goal

pub returns : goal.returns
returns c =
    c.first_missing_in.ensures
    ∙ (ap (λ (t : Judged). missing_in c.args.script.now t.state) c.requires.held ∙ missing_is c.args.script.now (reverse c.args.entries.now) c.requires.legal)
