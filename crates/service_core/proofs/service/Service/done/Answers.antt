use Rattle.service_core.proofs.Keeping.{completes}
use Rattle.service_core.proofs.service.Service.done.Goals as goal

pub returns : goal.returns
returns c = rw (← c.self.view_is, c.is_over.ensures) (completes c.self.inside.state c.self.inside.log c.self.invariant)
