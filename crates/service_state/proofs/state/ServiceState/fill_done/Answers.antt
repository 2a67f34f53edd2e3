use Rattle.std.proofs.Common.{◌≡◌, Option, Some, None, sym, subst}
use Rattle.cam_types.specs.declared.job.FillTarget.{FillTarget}
use Rattle.device_rows.specs.Jobs.{IsFillOutFor}
use Rattle.device_rows.specs.Rows.{fill_ended, with_row}
use Rattle.device_core.specs.View.{with_rows}
use Rattle.run_model.specs.declared.step.StepName.TheVariants.{FillDone}
use Rattle.std.proofs.Common.{IfSome}
use Rattle.service_state.specs.Answers.{Makes, move_with}
use Rattle.service_state.proofs.Made.{held, makes_as}
use Rattle.service_state.proofs.Steps.{filled}
use Rattle.service_state.proofs.state.ServiceState.fill_done.Goals as goal

pub returns : goal.returns
returns c =
    let i = c.self.inside in
    let s = held i in
    let out : IsFillOutFor i.client.streams i.device.rows c.args.job c.args.job.fill = subst (λ x. IsFillOutFor x.parts.client.streams x.parts.rows c.args.job c.args.job.fill) (sym c.self.view_is) c.requires.out in
    by c.args.job.fill out c.fill_done.ensures
  where
    by : (o : Option FillTarget) → IsFillOutFor c.self.inside.client.streams c.self.inside.device.rows c.args.job o → IfSome o (λ target. c.fill_done.new.self ≡ with_rows (with_row c.args.job.frame.0 (fill_ended target.stream) c.self.inside.device.rows) c.self.inside.device) → IfSome o (λ target. Makes c.args.self.now (held (record (c.self.inside) { device = c.fill_done.new.self })) (move_with (FillDone c.args.job.frame target.stream) None))
    by None out left = tt
    by (Some target) out left =
        let i = c.self.inside in
        let s = held i in
        makes_as s c.args.self.now _ _ c.self.view_is c.requires.serving (λ serving.
        rw left (filled s serving c.args.job.frame target.stream c.args.job out))
