use Rattle.service_core.proofs.Keeping.{seen, serves}
use Rattle.service_core.proofs.service.Service.parts.Goals as goal

pub returns-clause-parts : goal.returns-clause-parts
returns-clause-parts c = rw (← c.self.view_is) (seen c.self.inside.state c.self.inside.log c.self.invariant)

pub returns-clause-serving : goal.returns-clause-serving
returns-clause-serving c = serves c.self.inside.state c.self.inside.log c.self.invariant
