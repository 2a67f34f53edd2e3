use Rattle.std.proofs.Common.{List, sym, ap, subst, ◌∙◌, reverse, take}
use Rattle.trace_model.specs.declared.entry.Entry.{Entry}
use Rattle.trace_model.specs.Legal.{IsLegal}
use Rattle.trace_model.specs.Printable.{is_printable}
use Rattle.explain_call.proofs.Parts.{one_of_all, refused}
use Rattle.explain_call.proofs.Told.{told_at}
use Rattle.explain_call.proofs.verdict.illegal_at.Goals as goal

pub illegal_entry-requires-clause-refused : goal.illegal_entry-requires-clause-refused
illegal_entry-requires-clause-refused c =
    let is = c.before_of-before.ensures.value ∙ ap (λ (xs : List Entry). take c.args.position xs) c.as_slice.ensures in
    refused c.args.script.now c.args.trace.now.entries _ c.args.position c.args.rule _ c.requires.judged (sym c.in-Some.ensures) is

pub illegal_entry-requires-clause-legal : goal.illegal_entry-requires-clause-legal
illegal_entry-requires-clause-legal c =
    let is = c.before_of-before.ensures.value ∙ ap (λ (xs : List Entry). take c.args.position xs) c.as_slice.ensures in
    subst (λ (before : List Entry). IsLegal c.args.script.now (reverse before)) (sym is) c.requires.judged.before

pub illegal_entry-requires-clause-shown : goal.illegal_entry-requires-clause-shown
illegal_entry-requires-clause-shown c =
    one_of_all is_printable c.args.trace.now.entries c.args.position _ (sym c.in-Some.ensures) c.requires.printable

pub returns-in-Some : goal.returns-in-Some
returns-in-Some c =
    let is = c.before_of-before.ensures.value ∙ ap (λ (xs : List Entry). take c.args.position xs) c.as_slice.ensures in
    told_at c.args.script.now c.args.part.now c.args.rule c.args.number c.args.position c.args.trace.now.entries _ _ _ (sym c.in-Some.ensures) is c.illegal_entry.ensures
