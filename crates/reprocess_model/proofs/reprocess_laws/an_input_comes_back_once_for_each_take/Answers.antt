use Rattle.reprocess_model.proofs.Ends.{input-balanced}
use Rattle.reprocess_model.proofs.reprocess_laws.an_input_comes_back_once_for_each_take.Goals as goal

pub returns : goal.returns
returns c plan i past run = input-balanced plan i past run
