use Rattle.std.proofs.Common.{sym}
use Rattle.text_parts.proofs.Cuts.{not_in_two}
use Rattle.text_parts.proofs.cut.split_in_two.Goals as goal

pub returns-in-Some : goal.returns-in-Some
returns-in-Some c =
    sym (not_in_two c.args.byte c.args.text.now c.in_ok-front.front.now c.in_ok-front.back.now c.in-Some.field-0.0.now c.in-Some.field-0.1.now c.in_ok-front.ensures.parts c.in-Some.ensures.parts)
