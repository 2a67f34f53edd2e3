use Rattle.service_core.proofs.Given.{began}
use Rattle.service_core.proofs.Keeping.{has_room, keeps, serves, stays_still}
use Rattle.service_core.proofs.service.Service.shutter.Goals as goal

pub shutter-requires : goal.shutter-requires
shutter-requires c = serves c.self.inside.state c.self.inside.log c.self.invariant

pub push-requires-clause-room : goal.push-requires-clause-room
push-requires-clause-room c = has_room c.self.inside.state _ c.self.inside.log _ c.self.invariant c.in-Some.ensures.step

pub invariant_of-self : goal.invariant_of-self
invariant_of-self c = rw c.push.ensures (keeps c.self.inside.state _ c.self.inside.log _ c.self.invariant c.in-Some.ensures.step)

pub returns-in-Some : goal.returns-in-Some
returns-in-Some c =
    rw (← c.self.view_is, c.push.ensures) (began c.self.inside.state _ c.self.inside.log c.in-Some.entry c.in-Some.job c.self.invariant c.in-Some.ensures.step c.in-Some.ensures.job)

pub returns-in-None : goal.returns-in-None
returns-in-None c = rw (← c.self.view_is) (stays_still c.self.inside.state _ c.self.inside.log _ c.self.invariant c.in-None.ensures.step)
