use Rattle.explain_call.proofs.call.write_explanation.Goals as goal

pub returns : goal.returns
returns g c =
    rw (← c.status_of.ensures, ← c.from-number.ensures) (c.answer_made.ensures _ c.explain_verdict-text.ensures)
