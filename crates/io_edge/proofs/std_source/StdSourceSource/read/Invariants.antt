-- A try that a signal interrupted took nothing and counted no fault.
use Rattle.std.proofs.Common.{◌≡◌}
use Rattle.std.specs.Io.KnownBytes.{Keeps}
use Rattle.io_edge.proofs.std_source.StdSourceSource.read.Given as goal

abbrev pub invariant-loop : goal.invariant-loop
invariant-loop g l = record {
  kept : Keeps (g.R.Read.remaining l.initial.self.reader) (g.R.Read.remaining l.self.reader);
  uncounted : l.self.faults ≡ l.initial.self.faults;
}
