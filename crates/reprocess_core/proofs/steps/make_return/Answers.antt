use Rattle.std.proofs.lemmas.Grind.{common_steps}
use Rattle.std.proofs.Common.{sym, ◌∙◌, arith}
use Rattle.reprocess_core.proofs.Finds.{returnable, returned-is, returned-line}
use Rattle.reprocess_core.proofs.Places.{returned-places}
use Rattle.reprocess_core.specs.Inputs.{HasRoom}
use Rattle.reprocess_core.proofs.steps.make_return.Goals as goal

pub unreachable-requires-in_default-line : goal.unreachable-requires-in_default-line
unreachable-requires-in_default-line c =
    let state = c.args.course.now in
    let found = returned-line state.plan state.past c.args.frame c.in-Some.line (sym c.input_due.ensures ∙ c.in-Some.is) in
    c.in_default-line.not-Input c.args.frame found.0 found.1

pub take_ticket-ticket-requires-clause-within : goal.take_ticket-ticket-requires-clause-within
take_ticket-ticket-requires-clause-within c =
    let state = c.args.course.now in
    let line = returned-is state.plan state.past c.args.frame c.in-Input.frame c.in-Input.input c.input_due.result c.in-Some.line c.input_due.ensures c.in-Some.is c.in-Input.is in
    (returnable state.plan state.past c.args.places.now c.args.frame c.in-Input.input c.plan-plan.ensures.run c.requires.places line).within

pub take_ticket-ticket-requires-clause-out : goal.take_ticket-ticket-requires-clause-out
take_ticket-ticket-requires-clause-out c =
    let state = c.args.course.now in
    let line = returned-is state.plan state.past c.args.frame c.in-Input.frame c.in-Input.input c.input_due.result c.in-Some.line c.input_due.ensures c.in-Some.is c.in-Input.is in
    (returnable state.plan state.past c.args.places.now c.args.frame c.in-Input.input c.plan-plan.ensures.run c.requires.places line).out

pub returns-clause-places : goal.returns-clause-places
returns-clause-places c =
    let state = c.args.course.now in
    let line = returned-is state.plan state.past c.args.frame c.in-Input.frame c.in-Input.input c.input_due.result c.in-Some.line c.input_due.ensures c.in-Some.is c.in-Input.is in
    let found = returnable state.plan state.past c.args.places.now c.args.frame c.in-Input.input c.plan-plan.ensures.run c.requires.places line in
    let ticket = found.ticket c.take_ticket-ticket.result c.take_ticket-ticket.ensures.value in
    let room : HasRoom state.plan.input c.into_buffer.result = rw ticket.spec at c.into_buffer.ensures.len in
    let back = returned-places state.plan state.past c.args.places.now c.in-Input.frame c.in-Input.input c.into_buffer.result c.requires.places found.low room in
    rw (c.add.ensures, c.put.ensures, c.take_ticket-ticket.ensures.places) back

pub put-requires-clause-within : goal.put-requires-clause-within
put-requires-clause-within c = grind (arith, common_steps)

pub put-requires-clause-free : goal.put-requires-clause-free
put-requires-clause-free c = grind (arith, common_steps)
