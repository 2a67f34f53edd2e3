use Rattle.std.proofs.Common.{rules}
use Rattle.play_calls.proofs.prepared.prepare.Goals as goal

pub invariant_of-result : goal.invariant_of-result
invariant_of-result c = search rules
