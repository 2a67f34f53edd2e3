use Rattle.std.proofs.Common.{inl, inr, arith}
use Rattle.std.proofs.lemmas.Bool.{cases_lt}
use Rattle.std.proofs.lemmas.List.{get_or_past}
use Rattle.std.proofs.Common.{length}
use Rattle.metadata.proofs.Whole.{all_takes}
use Rattle.metadata.proofs.laws.read_is_spelled.Goals as goal

pub returns : goal.returns
returns c = λ bytes entries fit read. all_takes bytes entries (λ i. elim (cases_lt i (length bytes)) [ inl lt ↦ fit i 0 lt | inr le ↦ rw (get_or_past bytes i 0 le) (omega arith) ]) read
