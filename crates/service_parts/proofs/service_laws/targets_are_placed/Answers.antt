use Rattle.service_parts.proofs.Placed.{targets_placed}
use Rattle.service_parts.proofs.service_laws.targets_are_placed.Goals as goal

pub returns : goal.returns
returns c = targets_placed
