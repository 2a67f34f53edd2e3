use Rattle.std.proofs.Common.{rules}
use Rattle.device_rows.proofs.due.verdict.Goals as goal

pub returns-then-is_some_true-clause-value : goal.returns-then-is_some_true-clause-value
returns-then-is_some_true-clause-value c = search rules
