use Rattle.trace_laws.proofs.Once.{returned-at-most-once}
use Rattle.trace_laws.proofs.buffer_laws.buffers_end_once.Goals as goal

pub returns-clause-at_most : goal.returns-clause-at_most
returns-clause-at_most c = λ script past legal n s. returned-at-most-once script past n s legal
