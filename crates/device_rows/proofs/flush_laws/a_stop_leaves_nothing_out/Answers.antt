use Rattle.device_rows.proofs.Causes.{all_said}
use Rattle.device_rows.proofs.flush_laws.a_stop_leaves_nothing_out.Goals as goal

pub returns : goal.returns
returns c = all_said
