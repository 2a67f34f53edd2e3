use Rattle.std.proofs.Common.{sym, subst}
use Rattle.run_model.specs.Jobs.{IsJobOut}
use Rattle.service_core.proofs.Keeping.{has_room, keeps, makes, serves}
use Rattle.service_core.proofs.Outs.{sensor_out}
use Rattle.service_core.proofs.service.Service.sensor_done.Goals as goal

pub sensor_done-requires-clause-serving : goal.sensor_done-requires-clause-serving
sensor_done-requires-clause-serving c = serves c.self.inside.state c.self.inside.log c.self.invariant

pub sensor_done-requires-clause-out : goal.sensor_done-requires-clause-out
sensor_done-requires-clause-out c =
    sensor_out c.self.inside.state c.self.inside.log c.args.job c.self.invariant c.frame-frame.ensures.no_fill (subst (λ x. IsJobOut x.script x.history c.args.job) (sym c.self.view_is) c.requires)

pub push_silent-requires-clause-room : goal.push_silent-requires-clause-room
push_silent-requires-clause-room c = has_room c.self.inside.state _ c.self.inside.log _ c.self.invariant c.sensor_done.ensures

pub invariant_of-self : goal.invariant_of-self
invariant_of-self c =
    rw (c.push_silent.ensures, c.frame-frame.ensures.number) (keeps c.self.inside.state _ c.self.inside.log _ c.self.invariant c.sensor_done.ensures)

pub returns : goal.returns
returns c =
    rw (← c.self.view_is, c.push_silent.ensures, c.frame-frame.ensures.number) (makes c.self.inside.state _ c.self.inside.log _ c.self.invariant c.sensor_done.ensures)
