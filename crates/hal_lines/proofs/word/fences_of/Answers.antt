use Rattle.std.proofs.Common.{refl}
use Rattle.text_parts.proofs.Cuts.{parts_some}
use Rattle.hal_lines.proofs.word.fences_of.Goals as goal

pub returns-in-Some-split_at_byte : goal.returns-in-Some-split_at_byte
returns-in-Some-split_at_byte c =
    let s = parts_some 58 c.in-Some-split_at_byte.field-0.1.now in
    rw (c.in-Some.ensures.parts, c.in-Some-split_at_byte.ensures.parts, s.2) refl
