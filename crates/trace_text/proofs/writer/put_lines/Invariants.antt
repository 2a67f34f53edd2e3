-- The lines so far are written or gathered, and no fault was counted.
use Rattle.std.proofs.Common.{◌≡◌, ◌++◌, take}
use Rattle.std.specs.List.{flat_map}
use Rattle.trace_text.specs.Spelling.{line_of}
use Rattle.io_edge.specs.Pieces.{Gathers}
use Rattle.trace_text.proofs.writer.put_lines.Given as goal

abbrev pub invariant-loop-entry : goal.invariant-loop-entry
invariant-loop-entry g l = record {
  so_far : Gathers (g.K.Sink.state l.initial.sink) (g.K.Sink.state l.sink) l.pieces (l.initial.pieces ++ flat_map line_of (take l.entry-index l.trace));
  uncounted : (g.K.Sink.state l.sink).faults ≡ (g.K.Sink.state l.initial.sink).faults;
}
