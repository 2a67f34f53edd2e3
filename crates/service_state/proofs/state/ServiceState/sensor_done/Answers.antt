use Rattle.std.proofs.Common.{sym, subst}
use Rattle.device_rows.specs.Jobs.{IsSensorJobOut}
use Rattle.service_state.proofs.Made.{held, makes_as}
use Rattle.service_state.proofs.Steps.{sensed}
use Rattle.service_state.proofs.state.ServiceState.sensor_done.Goals as goal

pub returns : goal.returns
returns c =
    let i = c.self.inside in
    let s = held i in
    let out : IsSensorJobOut i.device.rows c.args.job = subst (λ x. IsSensorJobOut x.parts.rows c.args.job) (sym c.self.view_is) c.requires.out in
    makes_as s c.args.self.now _ _ c.self.view_is c.requires.serving (λ serving.
    rw c.sensor_done.ensures (sensed s serving c.args.job out))
