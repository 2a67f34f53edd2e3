use Rattle.std.proofs.Common.{refl}
use Rattle.hal_lines.proofs.word.HalStreamWord.read.Goals as goal

pub returns-in-None : goal.returns-in-None
returns-in-None c =
    rw (c.stream_in.ensures, c.both-in-None.ensures, c.both.ensures, c.small-stream.ensures, c.size_of.ensures, c.in-Some.ensures.parts, c.in-None.ensures.parts) refl

pub returns-in-Some-split_at_byte : goal.returns-in-Some-split_at_byte
returns-in-Some-split_at_byte c =
    rw (c.stream_in-in-Some-split_at_byte.ensures, c.both-in-Some-split_at_byte-2.ensures, c.both-in-Some-split_at_byte.ensures, c.small-stream.ensures, c.size_of-in-Some-split_at_byte.ensures, c.turned_of.ensures, c.in-Some.ensures.parts, c.in-Some-split_at_byte.ensures.parts) refl
