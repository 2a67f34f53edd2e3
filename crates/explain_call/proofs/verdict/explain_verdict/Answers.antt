use Rattle.explain_call.proofs.verdict.explain_verdict.Goals as goal

pub illegal_at-requires-clause-judged : goal.illegal_at-requires-clause-judged
illegal_at-requires-clause-judged c = rw c.in-IllegalAt.is at c.requires.judged
