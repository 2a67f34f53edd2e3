use Rattle.picture_stages.proofs.RowLemmas.{readout-between}
use Rattle.picture_stages.proofs.laws.a_readout_lies_between_dark_and_full.Goals as goal

pub returns : goal.returns
returns c = λ s n k d h. readout-between s n k d h
