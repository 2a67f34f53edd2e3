-- A try that a signal interrupted wrote nothing and counted no fault.
use Rattle.std.proofs.Common.{◌≡◌}
use Rattle.std.specs.Io.KnownBytes.{Keeps}
use Rattle.io_edge.proofs.std_sink.StdSinkSink.write.Given as goal

abbrev pub invariant-loop : goal.invariant-loop
invariant-loop g l = record {
  kept : Keeps (g.W.Write.contents l.initial.self.writer) (g.W.Write.contents l.self.writer);
  uncounted : l.self.faults ≡ l.initial.self.faults;
}
