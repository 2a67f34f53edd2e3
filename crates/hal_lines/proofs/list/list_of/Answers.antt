use Rattle.std.proofs.Common.{rules}
use Rattle.hal_lines.proofs.list.list_of.Goals as goal

pub values_of-requires : goal.values_of-requires
values_of-requires g c = search rules

pub returns-clause-list : goal.returns-clause-list
returns-clause-list g c = search rules
