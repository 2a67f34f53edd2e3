use Rattle.std.proofs.Common.{rules}
use Rattle.explain_call.proofs.length.played_length.Goals as goal

pub returns : goal.returns
returns c = search rules
