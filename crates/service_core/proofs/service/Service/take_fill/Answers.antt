use Rattle.service_core.proofs.Given.{took}
use Rattle.service_core.proofs.Keeping.{has_room, keeps, stays_still}
use Rattle.service_core.proofs.service.Service.take_fill.Goals as goal

pub returns-in_err-job : goal.returns-in_err-job
returns-in_err-job c =
    rw (← c.self.view_is, c.from_residual.ensures) (stays_still c.self.inside.state _ c.self.inside.log _ c.self.invariant c.in_err-job.ensures.step)

pub push_silent-requires-clause-room : goal.push_silent-requires-clause-room
push_silent-requires-clause-room c = has_room c.self.inside.state _ c.self.inside.log _ c.self.invariant c.in_ok-job.ensures.step

pub invariant_of-self-2 : goal.invariant_of-self-2
invariant_of-self-2 c =
    rw c.push_silent.ensures (keeps c.self.inside.state _ c.self.inside.log _ c.self.invariant c.in_ok-job.ensures.step)

pub returns : goal.returns
returns c =
    rw (← c.self.view_is, c.push_silent.ensures) (took c.self.inside.state _ c.self.inside.log c.args.frame c.args.stream c.in_ok-job.job c.self.invariant c.in_ok-job.ensures.step c.in_ok-job.ensures.job)
