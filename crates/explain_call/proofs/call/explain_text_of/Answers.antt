use Rattle.explain_call.proofs.call.explain_text_of.Goals as goal

pub explain_trace-requires-clause-printable : goal.explain_trace-requires-clause-printable
explain_trace-requires-clause-printable g c = (c.read_is_spelled.ensures c.args.first_line c.args.text.now c.in-Ok.trace c.in-Ok.ensures).2
