use Rattle.device_core.proofs.Turns.{found-views}
use Rattle.device_core.proofs.store.Store.next_exposure.Goals as goal

pub returns-clause-found : goal.returns-clause-found
returns-clause-found c = rw (← c.self.view_is) (found-views c.next_exposure.result c.self.inside.table.rows c.next_exposure.ensures.found)
