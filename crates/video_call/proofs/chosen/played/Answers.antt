use Rattle.std.proofs.Common.{rules}
use Rattle.video_call.proofs.chosen.played.Goals as goal

pub returns-clause-of : goal.returns-clause-of
returns-clause-of c = search rules
