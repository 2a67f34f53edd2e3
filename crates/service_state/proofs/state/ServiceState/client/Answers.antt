use Rattle.std.proofs.Common.{◌≡◌, Bool, Some, refl, sym, ap, ◌∙◌, subst}
use Rattle.std.proofs.Common.{arith}
use Rattle.client_calls.specs.Around.{IsAround}
use Rattle.state_facts.specs.Replies.{begin_in, call_in}
use Rattle.run_model.specs.Ready.{or_entry}
use Rattle.run_rows.specs.Kept.{is_no_row}
use Rattle.trace_model.specs.declared.entry.Entry.{Entry}
use Rattle.trace_model.specs.declared.entry.Entry.TheVariants.{Begin, Call}
use Rattle.service_state.specs.Configuring.{due_in}
use Rattle.service_state.proofs.Calls.{IsClientEntry, buffers_have_room, due_kind}
use Rattle.service_state.proofs.Made.{held}
use Rattle.service_state.proofs.state.ServiceState.client.Goals as goal

pub due-requires-clause-numbered : goal.due-requires-clause-numbered
due-requires-clause-numbered c =
    let room = buffers_have_room c.args.self.now c.requires in
    rw c.around.ensures.next (omega (arith, room))

pub unreachable-requires : goal.unreachable-requires
unreachable-requires c =
    let i = c.self.inside in
    let s = held i in
    let around : IsAround c.around.result s.parts.queue s.parts.buffers = subst (λ x. IsAround c.around.result x.parts.queue x.parts.buffers) (sym c.self.view_is) c.around.ensures.around in
    let quiet : c.around.result.quiet ≡ is_no_row s.parts.rows = subst (λ x. c.around.result.quiet ≡ is_no_row x.parts.rows) (sym c.self.view_is) c.around.ensures.quiet in
    let due : due_in s ≡ Some c.in_ok-entry.entry = sym (c.in_ok-entry.ensures s.parts.queue s.parts.buffers around ∙ ap (λ (b : Bool). or_entry (begin_in i.script i.client) (call_in i.script b i.client s.parts.queue s.parts.buffers)) quiet) in
    by c.in_ok-entry.entry refl (due_kind s c.in_ok-entry.entry due)
  where
    by : (e : Entry) → c.in_ok-entry.entry ≡ e → IsClientEntry c.self.inside.script e → ⊥
    by (Begin word) is kind = c.in_default.not-Begin word is
    by (Call i word reply) is kind = c.in_default.not-Call i word reply is
    by _ is kind = kind
