use Rattle.std.proofs.Common.{rules}
use Rattle.hal_table.proofs.index.is_called_from.Goals as goal

pub returns-in-Some-clause-above : goal.returns-in-Some-clause-above
returns-in-Some-clause-above c = search rules
