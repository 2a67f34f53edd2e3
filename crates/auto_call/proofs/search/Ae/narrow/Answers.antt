use Rattle.std.proofs.Common.{rules}
use Rattle.auto_call.proofs.search.Ae.narrow.Goals as goal

pub returns-then-enough-clause-value : goal.returns-then-enough-clause-value
returns-then-enough-clause-value c = search rules
