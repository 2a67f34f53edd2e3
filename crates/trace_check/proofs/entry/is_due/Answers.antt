use Rattle.trace_check.proofs.Shown.{judged}
use Rattle.trace_check.proofs.entry.is_due.Goals as goal

pub returns-in-Filled : goal.returns-in-Filled
returns-in-Filled c = judged c.args.script.now c.args.tables.now.state c.is_filled_due.result.0 c.in-Filled.is c.is_filled_due.ensures
