use Rattle.auto_call.proofs.Bright.{mean-same}
use Rattle.auto_call.proofs.laws.mean_is_the_same_in_each_frame.Goals as goal

pub returns : goal.returns
returns c = λ s n m still. mean-same s n m still
