use Rattle.std.proofs.Common.{◌≡◌, Bool, arith, ap, ◌∙◌, is_some, subst, sym}
use Rattle.client_calls.specs.Around.{IsAround}
use Rattle.state_facts.specs.Replies.{begin_in, call_in}
use Rattle.run_model.specs.Ready.{or_entry}
use Rattle.run_model.specs.declared.step.StepName.TheVariants.{Client}
use Rattle.run_rows.specs.Kept.{is_no_row}
use Rattle.service_state.proofs.Calls.{buffers_have_room}
use Rattle.service_state.proofs.Made.{held}
use Rattle.service_state.proofs.Readiness.{call_is, ready_as}
use Rattle.service_state.proofs.state.ServiceState.may_call.Goals as goal

pub due-requires-clause-numbered : goal.due-requires-clause-numbered
due-requires-clause-numbered c =
    let room = buffers_have_room c.args.self.now c.requires in
    rw c.around.ensures.next (omega (arith, room))

pub returns : goal.returns
returns c =
    let i = c.self.inside in
    let s = held i in
    let around : IsAround c.around.result s.parts.queue s.parts.buffers = subst (λ x. IsAround c.around.result x.parts.queue x.parts.buffers) (sym c.self.view_is) c.around.ensures.around in
    let quiet : c.around.result.quiet ≡ is_no_row s.parts.rows = subst (λ x. c.around.result.quiet ≡ is_no_row x.parts.rows) (sym c.self.view_is) c.around.ensures.quiet in
    let due : c.due.result ≡ or_entry (begin_in i.script i.client) (call_in i.script (is_no_row s.parts.rows) i.client s.parts.queue s.parts.buffers) = c.due.ensures s.parts.queue s.parts.buffers around ∙ ap (λ (b : Bool). or_entry (begin_in i.script i.client) (call_in i.script b i.client s.parts.queue s.parts.buffers)) quiet in
    ready_as s c.args.self.now c.self.view_is Client _ (c.is_some.ensures ∙ (ap is_some due ∙ sym (call_is s)))
