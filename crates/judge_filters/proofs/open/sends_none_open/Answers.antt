use Rattle.std.proofs.Common.{ap, not}
use Rattle.judge_filters.proofs.open.sends_none_open.Goals as goal

pub returns-in-Send : goal.returns-in-Send
returns-in-Send c = rw c.in-Send.is (ap not c.is_open.ensures)
