use Rattle.metadata.specs.Parts.{part_entries}
use Rattle.metadata.proofs.Parts.{part_packed, part_numbers, part_again}
use Rattle.metadata.proofs.rule_laws.parts_read_back.Goals as goal

pub returns : goal.returns
returns c = λ p small fits. (c.spelled_is_read.ensures (part_entries p) (part_packed p) (part_numbers p small fits), part_again p)
