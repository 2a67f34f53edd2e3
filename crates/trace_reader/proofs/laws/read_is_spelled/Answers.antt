use Rattle.trace_reader.proofs.MeansText.{trace-is}
use Rattle.trace_reader.proofs.laws.read_is_spelled.Goals as goal

pub returns : goal.returns
returns c = trace-is
