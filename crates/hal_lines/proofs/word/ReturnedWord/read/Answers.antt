use Rattle.std.proofs.Common.{refl}
use Rattle.hal_lines.proofs.word.ReturnedWord.read.Goals as goal

pub returns : goal.returns
returns c =
    rw (c.returned_in.ensures, c.both-3.ensures, c.both-2.ensures, c.both.ensures, c.known.ensures, c.known_buffer.ensures, c.status_of.ensures, c.fences_of.ensures, c.in-Some.ensures.parts, c.in-Some-split_at_byte.ensures.parts, c.in-Some-split_at_byte-2.ensures.parts) refl
