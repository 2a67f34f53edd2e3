use Rattle.std.proofs.Common.{rules}
use Rattle.hal_lines.proofs.cause.Cause.or_before.Goals as goal

pub returns-in_default : goal.returns-in_default
returns-in_default c = search rules
