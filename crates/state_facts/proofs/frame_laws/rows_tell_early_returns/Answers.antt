use Rattle.state_facts.proofs.Deliver.{early_reads}
use Rattle.state_facts.proofs.frame_laws.rows_tell_early_returns.Goals as goal

pub returns-clause-early : goal.returns-clause-early
returns-clause-early c = early_reads
