use Rattle.state_facts.proofs.StateFrames.{early_is, failed_is, filled_is}
use Rattle.state_facts.proofs.state_laws.due_entries_are_read.Goals as goal

pub returns-clause-failed : goal.returns-clause-failed
returns-clause-failed c = failed_is

pub returns-clause-filled : goal.returns-clause-filled
returns-clause-filled c = filled_is

pub returns-clause-early : goal.returns-clause-early
returns-clause-early c = early_is
