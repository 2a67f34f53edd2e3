use Rattle.trace_model.proofs.LawLemmas.{no-shutter}
use Rattle.trace_model.proofs.laws.nothing_begins_while_stopping.Goals as goal

pub returns-clause-shutter : goal.returns-clause-shutter
returns-clause-shutter c = λ script past n time stopping may. let none = no-shutter script past stopping in absurd (cc)
