-- What was put so far is written or gathered, and no fault was counted.
use Rattle.std.proofs.Common.{◌≡◌, ◌-◌, ◌≤◌, ◌++◌, length, take}
use Rattle.io_edge.specs.Pieces.{Gathers}
use Rattle.io_edge.proofs.pieces.Pieces.put.Given as goal

abbrev pub invariant-loop-done : goal.invariant-loop-done
invariant-loop-done g l = record {
  within : l.done ≤ length l.bytes;
  so_far : Gathers (g.K.Sink.state l.initial.sink) (g.K.Sink.state l.sink) l.self (l.initial.self ++ take l.done l.bytes);
  uncounted : (g.K.Sink.state l.sink).faults ≡ (g.K.Sink.state l.initial.sink).faults;
}

abbrev pub decreases-loop-done : goal.decreases-loop-done
decreases-loop-done g l = length l.bytes - l.done
