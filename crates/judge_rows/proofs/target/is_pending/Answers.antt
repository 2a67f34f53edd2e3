use Rattle.std.proofs.Common.{rules}
use Rattle.judge_rows.proofs.target.is_pending.Goals as goal

pub returns-then-is_given : goal.returns-then-is_given
returns-then-is_given c = search rules
