use Rattle.std.proofs.Common.{refl}
use Rattle.text_parts.proofs.Cuts.{parts_some}
use Rattle.hal_lines.proofs.word.direction_of.Goals as goal

pub returns-in-Some : goal.returns-in-Some
returns-in-Some c = let s = parts_some 58 c.in-Some.field-0.1.now in rw (c.in-Some.ensures.parts, s.2) refl
