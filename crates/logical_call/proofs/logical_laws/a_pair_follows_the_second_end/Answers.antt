use Rattle.logical_call.proofs.Joint.{pairs_follow_the_second_end}
use Rattle.logical_call.proofs.logical_laws.a_pair_follows_the_second_end.Goals as goal

pub returns : goal.returns
returns c = pairs_follow_the_second_end
