use Rattle.std.proofs.Common.{◌∙◌, sym, ap}
use Rattle.picture_stages.specs.Keys.{picture_by}
use Rattle.picture_stages.proofs.KeyLemmas.{by-key}
use Rattle.picture_stages.proofs.key_laws.a_picture_is_that_of_its_key.Goals as goal

pub returns-clause-value : goal.returns-clause-value
returns-clause-value c = by-key

pub returns-clause-equal : goal.returns-clause-equal
returns-clause-equal c = λ spec other s t n m h k same. by-key spec s n h ∙ (ap picture_by same ∙ sym (by-key other t m k))
