use Rattle.std.proofs.Common.{rules}
use Rattle.play_calls.proofs.judge.write_verdict.Goals as goal

pub returns : goal.returns
returns g c = search rules
