use Rattle.device_rows.proofs.Reach.{cleared}
use Rattle.device_rows.proofs.table_laws.what_is_parked_is_in_reach.Goals as goal

pub returns : goal.returns
returns g c = cleared
