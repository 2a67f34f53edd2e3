use Rattle.trace_reader.proofs.Again.{trace-again}
use Rattle.trace_reader.proofs.laws.spelled_is_read.Goals as goal

pub returns : goal.returns
returns c = trace-again
