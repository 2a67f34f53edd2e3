use Rattle.std.proofs.Common.{rules}
use Rattle.hal_model.proofs.value.write_acquire.Goals as goal

pub returns-then-acquire : goal.returns-then-acquire
returns-then-acquire c = search rules
