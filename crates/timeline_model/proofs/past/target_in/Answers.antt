-- Of a late fill the target is that of the early return.
use Rattle.timeline_model.proofs.past.target_in.Goals as goal

pub returns-in-Late : goal.returns-in-Late
returns-in-Late c = rw c.in-Late.is c.early_target.ensures
