use Rattle.std.proofs.Common.{sym, ◌∙◌}
use Rattle.run_model.specs.declared.step.StepName.TheVariants.{Finish}
use Rattle.service_state.proofs.Made.{held, serving_as}
use Rattle.service_state.proofs.Readiness.{finish_is, ready_as}
use Rattle.service_state.proofs.state.ServiceState.may_finish.Goals as goal

pub returns : goal.returns
returns c =
    let i = c.self.inside in
    let s = held i in
    ready_as s c.args.self.now c.self.view_is (Finish c.args.frame c.args.stream) _ (c.may_finish.ensures ∙ sym (finish_is s (serving_as s c.args.self.now c.self.view_is c.requires) c.args.frame c.args.stream))
