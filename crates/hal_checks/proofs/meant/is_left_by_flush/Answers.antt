use Rattle.std.proofs.Common.{rules}
use Rattle.hal_checks.proofs.meant.is_left_by_flush.Goals as goal

pub returns-then-row : goal.returns-then-row
returns-then-row c = search rules

pub returns-else-row : goal.returns-else-row
returns-else-row c = search rules
