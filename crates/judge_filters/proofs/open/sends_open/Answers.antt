use Rattle.judge_filters.proofs.open.sends_open.Goals as goal

pub returns-in-Send : goal.returns-in-Send
returns-in-Send c = rw c.in-Send.is c.is_open.ensures
