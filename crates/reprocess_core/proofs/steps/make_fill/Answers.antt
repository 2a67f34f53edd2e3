use Rattle.std.proofs.Common.{◌≡◌, List, ℕ, Option, Some, None, sym, ap, ◌∙◌, arith}
use Rattle.std.proofs.lemmas.Bool.{false≢true}
use Rattle.reprocess_model.specs.declared.entry.ReEntry.{ReEntry}
use Rattle.reprocess_model.specs.declared.entry.ReEntry.TheVariants.{Fill}
use Rattle.reprocess_model.specs.declared.plan.Plan.{Plan}
use Rattle.reprocess_model.specs.Due.{digest_of}
use Rattle.reprocess_model.specs.Past.{input_of}
use Rattle.reprocess_core.specs.declared.input.Place.{Place}
use Rattle.reprocess_core.specs.Inputs.{ArePlaces}
use Rattle.reprocess_core.proofs.Finds.{IsOutside, outside}
use Rattle.reprocess_core.proofs.Ready.{IsFillable, digest-is, fillable, output-fits}
use Rattle.reprocess_core.proofs.steps.make_fill.Goals as goal

-- the input of the request is at the device
input-out : (plan : Plan) (past : List ReEntry) (places : List (Option Place)) (n s b i : ℕ) → IsFillable plan past n s b → ArePlaces plan past places → input_of n past ≡ Some i → IsOutside plan places n i
input-out plan past places n s b i found are input = (let held = found.input i input in outside plan past places n i are held.0 held.1)

pub unreachable-requires-in_default-input_of : goal.unreachable-requires-in_default-input_of
unreachable-requires-in_default-input_of c =
    let found = fillable c.args.course.now.plan c.args.course.now.past c.args.frame c.args.stream c.in-Some.buffer (digest_of c.args.course.now.plan c.args.frame.0 c.args.stream.0) c.plan-plan.ensures.valid c.plan-plan.ensures.run c.in-Some.ensures in
    let none : input_of c.args.frame.0 c.args.course.now.past ≡ None = sym c.input_of.ensures ∙ c.in_default-input_of.is in
    false≢true (rw none at found.there)

pub output_spec-to-requires : goal.output_spec-to-requires
output_spec-to-requires c =
    let found = fillable c.args.course.now.plan c.args.course.now.past c.args.frame c.args.stream c.in-Some.buffer (digest_of c.args.course.now.plan c.args.frame.0 c.args.stream.0) c.plan-plan.ensures.valid c.plan-plan.ensures.run c.in-Some.ensures in
    rw c.plan-plan.ensures.value found.output

pub ticket_at-ticket-requires-clause-within : goal.ticket_at-ticket-requires-clause-within
ticket_at-ticket-requires-clause-within c =
    (input-out c.args.course.now.plan c.args.course.now.past c.args.places.now c.args.frame.0 c.args.stream.0 c.in-Some.buffer.0 c.in-Some-input_of.input (fillable c.args.course.now.plan c.args.course.now.past c.args.frame c.args.stream c.in-Some.buffer (digest_of c.args.course.now.plan c.args.frame.0 c.args.stream.0) c.plan-plan.ensures.valid c.plan-plan.ensures.run c.in-Some.ensures) c.requires.places (sym c.input_of.ensures ∙ c.in-Some-input_of.is)).within

pub ticket_at-ticket-requires-clause-out : goal.ticket_at-ticket-requires-clause-out
ticket_at-ticket-requires-clause-out c =
    (input-out c.args.course.now.plan c.args.course.now.past c.args.places.now c.args.frame.0 c.args.stream.0 c.in-Some.buffer.0 c.in-Some-input_of.input (fillable c.args.course.now.plan c.args.course.now.past c.args.frame c.args.stream c.in-Some.buffer (digest_of c.args.course.now.plan c.args.frame.0 c.args.stream.0) c.plan-plan.ensures.valid c.plan-plan.ensures.run c.in-Some.ensures) c.requires.places (sym c.input_of.ensures ∙ c.in-Some-input_of.is)).out

pub index_mut-block-requires : goal.index_mut-block-requires
index_mut-block-requires c =
    let found = fillable c.args.course.now.plan c.args.course.now.past c.args.frame c.args.stream c.in-Some.buffer (digest_of c.args.course.now.plan c.args.frame.0 c.args.stream.0) c.plan-plan.ensures.valid c.plan-plan.ensures.run c.in-Some.ensures in
    omega (arith, found.within, c.requires.blocks, c.args.blocks.now.ok.0)

pub fill-digest-requires : goal.fill-digest-requires
fill-digest-requires c =
    let out = input-out c.args.course.now.plan c.args.course.now.past c.args.places.now c.args.frame.0 c.args.stream.0 c.in-Some.buffer.0 c.in-Some-input_of.input (fillable c.args.course.now.plan c.args.course.now.past c.args.frame c.args.stream c.in-Some.buffer (digest_of c.args.course.now.plan c.args.frame.0 c.args.stream.0) c.plan-plan.ensures.valid c.plan-plan.ensures.run c.in-Some.ensures) c.requires.places (sym c.input_of.ensures ∙ c.in-Some-input_of.is) in
    let ticket = out.ticket c.ticket_at-ticket.result.now c.ticket_at-ticket.ensures in
    let to = rw c.plan-plan.ensures.value at c.output_spec-to.ensures in
    rw ticket.spec (output-fits c.args.course.now.plan c.args.stream.0 c.output_spec-to.result c.plan-plan.ensures.valid to)

pub add-requires : goal.add-requires
add-requires c =
    let out = input-out c.args.course.now.plan c.args.course.now.past c.args.places.now c.args.frame.0 c.args.stream.0 c.in-Some.buffer.0 c.in-Some-input_of.input (fillable c.args.course.now.plan c.args.course.now.past c.args.frame c.args.stream c.in-Some.buffer (digest_of c.args.course.now.plan c.args.frame.0 c.args.stream.0) c.plan-plan.ensures.valid c.plan-plan.ensures.run c.in-Some.ensures) c.requires.places (sym c.input_of.ensures ∙ c.in-Some-input_of.is) in
    let digest = c.fill-digest.ensures.digest ∙ digest-is c.args.course.now.plan c.args.frame.0 c.args.stream.0 c.output_spec-to.result c.ticket_at-ticket.result.now (out.ticket c.ticket_at-ticket.result.now c.ticket_at-ticket.ensures) (rw c.plan-plan.ensures.value at c.output_spec-to.ensures) in
    c.in-Some.ensures ∙ ap (λ (d : List ℕ). Some (Fill c.args.frame c.args.stream c.in-Some.buffer d)) (sym digest)

pub returns-clause-line : goal.returns-clause-line
returns-clause-line c =
    let out = input-out c.args.course.now.plan c.args.course.now.past c.args.places.now c.args.frame.0 c.args.stream.0 c.in-Some.buffer.0 c.in-Some-input_of.input (fillable c.args.course.now.plan c.args.course.now.past c.args.frame c.args.stream c.in-Some.buffer (digest_of c.args.course.now.plan c.args.frame.0 c.args.stream.0) c.plan-plan.ensures.valid c.plan-plan.ensures.run c.in-Some.ensures) c.requires.places (sym c.input_of.ensures ∙ c.in-Some-input_of.is) in
    let digest = c.fill-digest.ensures.digest ∙ digest-is c.args.course.now.plan c.args.frame.0 c.args.stream.0 c.output_spec-to.result c.ticket_at-ticket.result.now (out.ticket c.ticket_at-ticket.result.now c.ticket_at-ticket.ensures) (rw c.plan-plan.ensures.value at c.output_spec-to.ensures) in
    c.in-Some.ensures ∙ ap (λ (d : List ℕ). Some (Fill c.args.frame c.args.stream c.in-Some.buffer d)) (sym digest)
