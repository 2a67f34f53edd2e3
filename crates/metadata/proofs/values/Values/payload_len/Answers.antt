use Rattle.metadata.proofs.Payload.{length-payload}
use Rattle.metadata.proofs.values.Values.payload_len.Goals as goal

pub returns-clause-len : goal.returns-clause-len
returns-clause-len c = rw (c.count.ensures, c.element_len.ensures, c.element_type.ensures) (length-payload c.args.self.now)
