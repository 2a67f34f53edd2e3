use Rattle.std.proofs.Common.{arith}
use Rattle.std.proofs.lemmas.Grind.{common_steps}
use Rattle.metadata.specs.Reading.{list_of}
use Rattle.metadata.proofs.reading.entries_from.Goals as goal

pub returns-then-bytes-lt-SLOT : goal.returns-then-bytes-lt-SLOT
unfolding list_of
returns-then-bytes-lt-SLOT c = grind (arith, common_steps)

pub returns-then-not-is_header : goal.returns-then-not-is_header
unfolding list_of
returns-then-not-is_header c = grind (arith, common_steps)

pub returns-then-bytes-whole : goal.returns-then-bytes-whole
unfolding list_of
returns-then-bytes-whole c = grind (arith, common_steps)

pub returns-then-whole-bytes : goal.returns-then-whole-bytes
unfolding list_of
returns-then-whole-bytes c = grind (arith, common_steps)

pub returns : goal.returns
unfolding list_of
returns c = grind (arith, common_steps)
