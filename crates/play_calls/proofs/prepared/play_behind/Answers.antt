use Rattle.std.proofs.Common.{rules}
use Rattle.play_calls.proofs.prepared.play_behind.Goals as goal

pub returns : goal.returns
returns g c = search rules
