use Rattle.hal_laws.proofs.Holders.{one_holder}
use Rattle.hal_laws.proofs.promises.a_buffer_is_in_one_place.Goals as goal

pub returns-clause-place : goal.returns-clause-place
returns-clause-place c k log = one_holder k log
