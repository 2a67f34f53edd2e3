use Rattle.std.proofs.Common.{◌≡◌, Bool, true, false, refl, is_some}
use Rattle.device_rows.specs.Ready.{is_fill_ready}
use Rattle.buffer_pool.specs.Fences.{is_signalled}
use Rattle.run_model.specs.Ready.{silent}
use Rattle.run_model.specs.declared.step.StepName.{StepName}
use Rattle.run_model.specs.declared.step.StepName.TheVariants.{TakeFill}
use Rattle.service_state.proofs.Made.{held}
use Rattle.service_state.proofs.Readiness.{ready_as}
use Rattle.service_state.proofs.state.ServiceState.may_take_fill.Goals as goal

is_made : (step : StepName) (ready : Bool) → ready ≡ is_some (silent step ready)
is_made step true = refl
is_made step false = refl

pub returns : goal.returns
returns c =
    let i = c.self.inside in
    let step = TakeFill c.args.frame c.args.stream in
    ready_as (held i) c.args.self.now c.self.view_is step _ (rw (c.may_take_fill.ensures, c.self.invariant.faults) (is_made step (is_fill_ready i.script.faults (λ f. is_signalled f i.fences) i.device.rows c.args.frame.0 c.args.stream.0)))
