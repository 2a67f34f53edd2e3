use Rattle.device_rows.proofs.Causes.{no_cause}
use Rattle.device_rows.proofs.flush_laws.no_error_without_a_cause.Goals as goal

pub returns : goal.returns
returns c = no_cause
