use Rattle.std.proofs.Common.{sym, ◌∙◌, is_some, slice_get}
use Rattle.device_rows.specs.Jobs.{is_fill_out}
use Rattle.device_rows.specs.Ready.{target_passes}
use Rattle.device_rows.specs.Rows.{row_at}
use Rattle.run_model.specs.declared.step.StepName.TheVariants.{FillDone}
use Rattle.service_state.proofs.Made.{held}
use Rattle.service_state.proofs.Readiness.{fill_is, not_first, ready_as}
use Rattle.service_state.proofs.state.ServiceState.may_end_fill.Goals as goal

pub returns-else-has_fill_job : goal.returns-else-has_fill_job
returns-else-has_fill_job c =
    let i = c.self.inside in
    let s = held i in
    ready_as s c.args.self.now c.self.view_is (FillDone c.args.frame c.args.stream) _ (not_first c.has_fill_job.result (target_passes (λ row target. is_fill_out target.state) c.args.stream.0 (row_at c.args.frame.0 s.parts.rows)) (is_some (slice_get s.parts.client.streams c.args.stream.0)) c.has_fill_job.ensures c.if-has_fill_job.false ∙ sym (fill_is s c.args.frame c.args.stream))
