-- The pictures so far are written, and no fault was counted.
use Rattle.std.proofs.Common.{◌≡◌, take}
use Rattle.std.specs.List.{flat_map}
use Rattle.io_edge.specs.States.{Writes}
use Rattle.video_call.specs.Shows.{frame_of}
use Rattle.video_call.proofs.write.write_frames.Given as goal

abbrev pub invariant-loop-shot : goal.invariant-loop-shot
invariant-loop-shot g l = record {
  written : Writes (g.K.Sink.state l.initial.sink) (g.K.Sink.state l.sink) (flat_map (frame_of l.head l.format) (take l.shot-index l.shots));
  uncounted : (g.K.Sink.state l.sink).faults ≡ (g.K.Sink.state l.initial.sink).faults;
}
