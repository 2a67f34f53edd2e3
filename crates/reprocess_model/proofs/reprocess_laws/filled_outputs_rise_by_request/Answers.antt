use Rattle.reprocess_model.proofs.Ends.{filled-rise}
use Rattle.reprocess_model.proofs.reprocess_laws.filled_outputs_rise_by_request.Goals as goal

pub returns : goal.returns
returns c plan past run = filled-rise plan past run
