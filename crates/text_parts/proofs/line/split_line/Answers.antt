use Rattle.text_parts.proofs.Cuts.{lines-cons}
use Rattle.text_parts.proofs.line.split_line.Goals as goal

pub returns-in-Some-clause-lines : goal.returns-in-Some-clause-lines
returns-in-Some-clause-lines c = rw (c.without_return.ensures) (lines-cons c.args.text.now c.in-Some.line.now c.in-Some.rest.now c.in-Some.ensures.parts)
