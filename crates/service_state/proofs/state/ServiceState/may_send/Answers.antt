use Rattle.std.proofs.Common.{◌≡◌, true, Some, sym, ◌∙◌, subst, is_some}
use Rattle.state_facts.specs.Turns.{next_of}
use Rattle.run_model.specs.declared.step.StepName.TheVariants.{Send}
use Rattle.trace_model.specs.Send.{targets_in_order}
use Rattle.buffer_manager.specs.Taking.{least_targets_in}
use Rattle.service_parts.specs.Moves.{may_go_by}
use Rattle.service_state.specs.Serving.{Serving}
use Rattle.service_state.proofs.Made.{held}
use Rattle.service_state.proofs.Readiness.{next_sent, ready_as, then_second}
use Rattle.service_state.proofs.state.ServiceState.may_send.Goals as goal

pub returns-then-may_go : goal.returns-then-may_go
returns-then-may_go c =
    let i = c.self.inside in
    let s = held i in
    let next = c.in-Some.next in
    let at : next_of i.captures.turns ≡ Some next = sym c.peek.ensures ∙ c.in-Some.is in
    let may : may_go_by i.script s.parts next ≡ true = subst (λ (x : Serving). may_go_by x.script x.parts next ≡ true) (sym c.self.view_is) (sym c.may_go.ensures ∙ c.if-may_go.true) in
    ready_as s c.args.self.now c.self.view_is Send _ (then_second c.has_buffers_for.result (may_go_by i.script s.parts next) (is_some (least_targets_in s.parts.buffers (targets_in_order next.item))) may c.has_buffers_for.ensures ∙ sym (next_sent s next at))
