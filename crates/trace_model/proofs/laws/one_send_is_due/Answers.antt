use Rattle.trace_model.proofs.LawLemmas.{one-send}
use Rattle.trace_model.proofs.laws.one_send_is_due.Goals as goal

pub returns : goal.returns
returns c = λ script past n m r q i j same mark targets others may other. one-send script past n.0 m.0 r.0 q.0 i j same mark targets others may other
