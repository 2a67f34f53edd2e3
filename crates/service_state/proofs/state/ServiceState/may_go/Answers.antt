use Rattle.std.proofs.Common.{rules}
use Rattle.service_state.proofs.state.ServiceState.may_go.Goals as goal

pub returns-then-not-next : goal.returns-then-not-next
returns-then-not-next c = search rules

pub returns-else-not-next : goal.returns-else-not-next
returns-else-not-next c = search rules

pub returns-else-has_room_for : goal.returns-else-has_room_for
returns-else-has_room_for c = search rules
