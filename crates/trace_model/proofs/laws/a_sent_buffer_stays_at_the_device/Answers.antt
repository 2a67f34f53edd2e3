use Rattle.trace_model.proofs.LawLemmas.{until-returned}
use Rattle.trace_model.proofs.laws.a_sent_buffer_stays_at_the_device.Goals as goal

pub returns-clause-until : goal.returns-clause-until
returns-clause-until c = until-returned
