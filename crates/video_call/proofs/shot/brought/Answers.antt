use Rattle.video_call.proofs.shot.brought.Goals as goal

pub returns-in-Late : goal.returns-in-Late
returns-in-Late c = rw c.in-Late.is c.early_with.ensures
