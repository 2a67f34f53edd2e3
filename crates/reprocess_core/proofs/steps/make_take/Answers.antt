use Rattle.std.proofs.Common.{sym, ◌∙◌}
use Rattle.reprocess_core.proofs.Finds.{takable, taken-is, taken-line}
use Rattle.reprocess_core.proofs.Places.{taken-places}
use Rattle.reprocess_core.proofs.steps.make_take.Goals as goal

pub unreachable-requires-in_default-line : goal.unreachable-requires-in_default-line
unreachable-requires-in_default-line c =
    let state = c.args.course.now in
    let found = taken-line state.plan state.past c.in-Some.line (sym c.take_due.ensures ∙ c.in-Some.is) in
    c.in_default-line.not-Take found.0 found.1 found.2 found.3

pub draw_into-requires-clause-request : goal.draw_into-requires-clause-request
draw_into-requires-clause-request c =
    let state = c.args.course.now in
    let line = taken-is state.plan state.past c.in-Take.frame c.in-Take.input c.in-Take.outputs c.take_due.result c.in-Some.line c.take_due.ensures c.in-Some.is c.in-Take.is in
    rw c.plan-plan.ensures.value (takable state.plan state.past c.args.places.now c.in-Take.frame c.in-Take.input c.in-Take.outputs c.plan-plan.ensures.run c.requires.places line).request

pub draw_into-requires-clause-within : goal.draw_into-requires-clause-within
draw_into-requires-clause-within c =
    let state = c.args.course.now in
    let line = taken-is state.plan state.past c.in-Take.frame c.in-Take.input c.in-Take.outputs c.take_due.result c.in-Some.line c.take_due.ensures c.in-Some.is c.in-Take.is in
    (takable state.plan state.past c.args.places.now c.in-Take.frame c.in-Take.input c.in-Take.outputs c.plan-plan.ensures.run c.requires.places line).within

pub draw_into-requires-clause-home : goal.draw_into-requires-clause-home
draw_into-requires-clause-home c =
    let state = c.args.course.now in
    let line = taken-is state.plan state.past c.in-Take.frame c.in-Take.input c.in-Take.outputs c.take_due.result c.in-Some.line c.take_due.ensures c.in-Some.is c.in-Take.is in
    (takable state.plan state.past c.args.places.now c.in-Take.frame c.in-Take.input c.in-Take.outputs c.plan-plan.ensures.run c.requires.places line).home

pub draw_into-requires-clause-room : goal.draw_into-requires-clause-room
draw_into-requires-clause-room c =
    let state = c.args.course.now in
    let line = taken-is state.plan state.past c.in-Take.frame c.in-Take.input c.in-Take.outputs c.take_due.result c.in-Some.line c.take_due.ensures c.in-Some.is c.in-Take.is in
    rw c.plan-plan.ensures.value (takable state.plan state.past c.args.places.now c.in-Take.frame c.in-Take.input c.in-Take.outputs c.plan-plan.ensures.run c.requires.places line).room

pub returns-clause-places : goal.returns-clause-places
returns-clause-places c =
    let state = c.args.course.now in
    let line = taken-is state.plan state.past c.in-Take.frame c.in-Take.input c.in-Take.outputs c.take_due.result c.in-Some.line c.take_due.ensures c.in-Some.is c.in-Take.is in
    let found = takable state.plan state.past c.args.places.now c.in-Take.frame c.in-Take.input c.in-Take.outputs c.plan-plan.ensures.run c.requires.places line in
    let drawn = c.draw_into.ensures.ticket in
    let ticket = rw c.plan-plan.ensures.value at drawn.1 in
    rw (c.add.ensures, drawn.2) (taken-places state.plan state.past c.args.places.now c.in-Take.frame c.in-Take.input c.in-Take.outputs drawn.0 c.requires.places found.low ticket)
