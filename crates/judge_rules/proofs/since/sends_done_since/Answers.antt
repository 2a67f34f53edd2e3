use Rattle.judge_rules.proofs.since.sends_done_since.Goals as goal

pub returns-in-Send : goal.returns-in-Send
returns-in-Send c = rw c.in-Send.is c.is_done_since.ensures
