use Rattle.trace_laws.proofs.Nothing.{nothing_good}
use Rattle.trace_laws.proofs.request_error_laws.nothing_good_comes_after_a_request_error.Goals as goal

pub returns-clause-later : goal.returns-clause-later
returns-clause-later c script past later n legal has = nothing_good script past later n legal has
