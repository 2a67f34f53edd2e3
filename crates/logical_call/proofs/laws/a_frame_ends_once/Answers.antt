use Rattle.logical_call.proofs.Ends.{pairs_end}
use Rattle.logical_call.proofs.laws.a_frame_ends_once.Goals as goal

pub returns-clause-pair : goal.returns-clause-pair
returns-clause-pair c = pairs_end
