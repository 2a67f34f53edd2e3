use Rattle.metadata.proofs.Whole.{all_again}
use Rattle.metadata.proofs.laws.spelled_is_read.Goals as goal

pub returns : goal.returns
returns c = all_again
