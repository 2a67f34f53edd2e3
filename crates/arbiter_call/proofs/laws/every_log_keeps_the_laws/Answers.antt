use Rattle.arbiter_call.proofs.Closing.{laws-closed, laws-made}
use Rattle.arbiter_call.proofs.laws.every_log_keeps_the_laws.Goals as goal

pub returns-clause-laws : goal.returns-clause-laws
returns-clause-laws c = laws-made

pub returns-clause-at_the_end : goal.returns-clause-at_the_end
returns-clause-at_the_end c = laws-closed
