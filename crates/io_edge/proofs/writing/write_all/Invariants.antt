-- `write_all` has written just the bytes before `done`, and no fault was counted.
use Rattle.std.proofs.Common.{ℕ, ◌≡◌, ◌-◌, ◌≤◌, length, take}
use Rattle.io_edge.specs.States.{Writes}
use Rattle.io_edge.proofs.writing.write_all.Given as goal

abbrev pub invariant-loop-done : goal.invariant-loop-done
invariant-loop-done g l = record {
  within : l.done ≤ length l.bytes;
  written : Writes (g.K.Sink.state l.initial.sink) (g.K.Sink.state l.sink) (take l.done l.bytes);
  uncounted : (g.K.Sink.state l.sink).faults ≡ (g.K.Sink.state l.initial.sink).faults;
  promised : (total : ℕ) → length l.bytes ≤ total → g.K.Sink.takes l.initial.sink total → g.K.Sink.takes l.sink (total - l.done);
}

abbrev pub decreases-loop-done : goal.decreases-loop-done
decreases-loop-done g l = length l.bytes - l.done
