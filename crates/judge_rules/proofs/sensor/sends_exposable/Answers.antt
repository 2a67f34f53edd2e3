use Rattle.judge_rules.proofs.sensor.sends_exposable.Goals as goal

pub returns-in-Send : goal.returns-in-Send
returns-in-Send c = rw c.in-Send.is c.may_expose.ensures
