use Rattle.std.proofs.Common.{sym}
use Rattle.service_state.proofs.Exposing.{exposure_same, row_of_job}
use Rattle.service_state.proofs.Made.{held, makes_as, serving_as}
use Rattle.service_state.proofs.Room.{clock_fits}
use Rattle.service_state.proofs.Steps.{begun}
use Rattle.service_state.proofs.state.ServiceState.shutter.Goals as goal

pub next_shutter-self-inside-requires : goal.next_shutter-self-inside-requires
next_shutter-self-inside-requires c =
    let i = c.self.inside in
    let serving = serving_as (held i) c.args.self.now c.self.view_is c.requires in
    let told = c.in_ok-job.ensures in
    let it = row_of_job i.script.faults i.device.rows c.in_ok-job.job (rw (sym c.self.invariant.faults) told.job) in
    rw (c.exposure_of.ensures, told.rows, c.frame-frame.ensures.number, it.2, exposure_same it.0.frame.0 i.clock i.device.rows) (clock_fits (held i) serving it.0 (begun (held i) serving it.0 it.1).ready)

pub returns-clause-step : goal.returns-clause-step
returns-clause-step c =
    let i = c.self.inside in
    let told = c.in_ok-job.ensures in
    let it = row_of_job i.script.faults i.device.rows c.in_ok-job.job (rw (sym c.self.invariant.faults) told.job) in
    makes_as (held i) c.args.self.now _ _ c.self.view_is c.requires (λ serving.
    rw (c.next_shutter-self-inside.ensures, c.exposure_of.ensures, told.rows, c.frame-frame.ensures.number, it.2, exposure_same it.0.frame.0 i.clock i.device.rows) (begun (held i) serving it.0 it.1))
