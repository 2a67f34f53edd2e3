use Rattle.std.proofs.Common.{rules}
use Rattle.device_core.proofs.deliver.may_return.Goals as goal

pub returns-then-is_some : goal.returns-then-is_some
returns-then-is_some c = search rules
