use Rattle.service_core.proofs.Keeping.{bounded, legal, printed}
use Rattle.service_core.proofs.service.Service.is_a_run.Goals as goal

pub returns-clause-run : goal.returns-clause-run
returns-clause-run c = rw (← c.self.view_is) c.self.invariant.run

pub returns-clause-legal : goal.returns-clause-legal
returns-clause-legal c = rw (← c.self.view_is) (legal c.self.inside.state c.self.inside.log c.self.invariant)

pub returns-clause-lines : goal.returns-clause-lines
returns-clause-lines c = rw (← c.self.view_is) (printed c.self.inside.state c.self.inside.log c.self.invariant)

pub returns-clause-few : goal.returns-clause-few
returns-clause-few c = rw (← c.self.view_is) (bounded c.self.inside.state c.self.inside.log c.self.invariant)

pub returns-clause-valid : goal.returns-clause-valid
returns-clause-valid c = rw (← c.self.view_is) c.self.invariant.valid
