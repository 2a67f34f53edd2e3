use Rattle.timeline_svg.specs.Words.{turned_text}
use Rattle.timeline_svg.proofs.word.put_turned.Goals as goal

pub returns : goal.returns
unfolding turned_text
returns c = rw c.x_of.ensures at c.write.ensures.bytes
