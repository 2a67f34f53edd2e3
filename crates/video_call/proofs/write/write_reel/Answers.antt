use Rattle.std.proofs.lemmas.Grind.{common_steps}
use Rattle.std.proofs.Common.{arith}
use Rattle.std.specs.List.{flat_map}
use Rattle.io_edge.specs.States.{Breaks}
use Rattle.video_call.specs.Shows.{frame_of}
use Rattle.video_call.proofs.Written.{first-broken, second-broken}
use Rattle.video_call.proofs.write.write_reel.Goals as goal
use Rattle.basic_lemmas.proofs.Options.{err-as, on-err}

pub returns-clause-failed : goal.returns-clause-failed
returns-clause-failed g c =
    let frames = flat_map (frame_of c.args.reel.frame_head.items c.args.format) c.args.shots.now in
    err-as _ _ c.write_frames.result (λ (b : Breaks (g.K.Sink.state c.write_all.new.sink) (g.K.Sink.state c.write_frames.new.sink) frames). second-broken (g.K.Sink.state c.args.sink.now) (g.K.Sink.state c.write_all.new.sink) (g.K.Sink.state c.write_frames.new.sink) c.args.reel.head.items frames (rw c.as_slice.ensures.value at c.in_ok-write_all.ensures.ok) b) (rw c.as_slice-2.ensures.value at c.write_frames.ensures.failed)

pub returns-clause-written : goal.returns-clause-written
returns-clause-written c = grind (arith, common_steps)

pub returns-in_err-write_all-clause-failed : goal.returns-in_err-write_all-clause-failed
returns-in_err-write_all-clause-failed g c =
    let frames = flat_map (frame_of c.args.reel.frame_head.items c.args.format) c.args.shots.now in
    on-err _ _ (first-broken (g.K.Sink.state c.args.sink.now) (g.K.Sink.state c.write_all.new.sink) c.args.reel.head.items frames (rw c.as_slice.ensures.value at c.in_err-write_all.ensures.failed))
