use Rattle.reprocess_model.proofs.Ends.{output-balanced}
use Rattle.reprocess_model.proofs.reprocess_laws.an_output_comes_back_once_for_each_take.Goals as goal

pub returns : goal.returns
returns c plan b past run = output-balanced plan b past run
