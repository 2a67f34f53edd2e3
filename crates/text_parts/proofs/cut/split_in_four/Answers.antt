use Rattle.std.proofs.Common.{sym, refl}
use Rattle.text_parts.proofs.Cuts.{four-parts-two}
use Rattle.text_parts.proofs.cut.split_in_four.Goals as goal

pub returns : goal.returns
returns c =
    rw (c.in_ok-first.ensures.parts, c.in_ok-second.ensures.parts, four-parts-two, sym c.in_ok-third.ensures) refl
