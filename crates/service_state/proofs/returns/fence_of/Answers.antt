use Rattle.std.proofs.Common.{rules}
use Rattle.service_state.proofs.returns.fence_of.Goals as goal

pub returns-in-Some : goal.returns-in-Some
returns-in-Some c = search rules
