use Rattle.logical_call.proofs.pairing.frame_of.Goals as goal

pub returns-in-Late : goal.returns-in-Late
returns-in-Late c = rw c.in-Late.is c.early_frame.ensures
