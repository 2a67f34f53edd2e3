-- The lines so far are written or gathered, and no fault was counted.
use Rattle.std.proofs.Common.{◌≡◌, ◌++◌, take}
use Rattle.std.specs.List.{flat_map}
use Rattle.reprocess_call.specs.Lines.{line_of}
use Rattle.io_edge.specs.Pieces.{Gathers}
use Rattle.reprocess_call.proofs.run.put_lines.Given as goal

abbrev pub invariant-loop-line : goal.invariant-loop-line
invariant-loop-line g l = record {
  so_far : Gathers (g.K.Sink.state l.initial.sink) (g.K.Sink.state l.sink) l.pieces (l.initial.pieces ++ flat_map line_of (take l.line-index l.lines));
  uncounted : (g.K.Sink.state l.sink).faults ≡ (g.K.Sink.state l.initial.sink).faults;
}
