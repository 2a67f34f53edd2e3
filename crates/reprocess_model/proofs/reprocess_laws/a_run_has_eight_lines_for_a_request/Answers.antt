use Rattle.reprocess_model.proofs.Bound.{bounded}
use Rattle.reprocess_model.proofs.reprocess_laws.a_run_has_eight_lines_for_a_request.Goals as goal

pub returns : goal.returns
returns c plan past valid run = bounded plan past valid run
