use Rattle.std.proofs.Common.{sym, subst}
use Rattle.run_model.specs.Jobs.{IsJobOut}
use Rattle.service_core.proofs.Keeping.{has_room, keeps, makes, serves}
use Rattle.service_core.proofs.Outs.{fill_out}
use Rattle.service_core.proofs.service.Service.fill_done.Goals as goal

pub fill_done-requires-clause-serving : goal.fill_done-requires-clause-serving
fill_done-requires-clause-serving c = serves c.self.inside.state c.self.inside.log c.self.invariant

pub fill_done-requires-clause-out : goal.fill_done-requires-clause-out
fill_done-requires-clause-out c =
    fill_out c.self.inside.state c.self.inside.log c.args.job _ c.self.invariant c.target.ensures (subst (λ x. IsJobOut x.script x.history c.args.job) (sym c.self.view_is) c.requires)

pub push_silent-requires-clause-room : goal.push_silent-requires-clause-room
push_silent-requires-clause-room c =
    has_room c.self.inside.state _ c.self.inside.log _ c.self.invariant (rw c.target.ensures at c.fill_done.ensures)

pub invariant_of-self : goal.invariant_of-self
invariant_of-self c =
    rw (c.push_silent.ensures, c.frame-frame.ensures) (keeps c.self.inside.state _ c.self.inside.log _ c.self.invariant (rw c.target.ensures at c.fill_done.ensures))

pub returns : goal.returns
returns c =
    rw (← c.self.view_is, c.push_silent.ensures, c.frame-frame.ensures, c.target.ensures) (makes c.self.inside.state _ c.self.inside.log _ c.self.invariant (rw c.target.ensures at c.fill_done.ensures))
