use Rattle.reprocess_model.proofs.Ends.{ends-once}
use Rattle.reprocess_model.proofs.reprocess_laws.each_request_ends_once.Goals as goal

pub returns : goal.returns
returns c plan n past run complete called = ends-once plan n past run complete called
