use Rattle.run_rows.proofs.Stuck.{has_candidates}
use Rattle.run_rows.proofs.stuck_laws.a_run_is_never_stuck.Goals as goal

pub returns-clause-candidates : goal.returns-clause-candidates
returns-clause-candidates c = has_candidates
