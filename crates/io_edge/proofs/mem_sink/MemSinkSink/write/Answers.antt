use Rattle.std.proofs.Common.{arith}
use Rattle.std.proofs.lemmas.Grind.{common_steps}
use Rattle.io_edge.proofs.mem_sink.MemSinkSink.write.Goals as goal

pub returns-clause-promised : goal.returns-clause-promised
returns-clause-promised c = grind (arith, common_steps)
