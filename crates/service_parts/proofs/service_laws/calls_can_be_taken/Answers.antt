use Rattle.service_parts.proofs.Taken.{call_taken}
use Rattle.service_parts.proofs.service_laws.calls_can_be_taken.Goals as goal

pub returns : goal.returns
returns c = call_taken
