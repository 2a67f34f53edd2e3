use Rattle.std.proofs.lemmas.Grind.{common_steps}
use Rattle.std.proofs.Common.{rules, arith}
use Rattle.video_call.specs.Shows.{frame_of}
use Rattle.video_call.proofs.Written.{piece-broken, piece-written}
use Rattle.video_call.proofs.write.write_frames.Goals as goal
use Rattle.basic_lemmas.proofs.Options.{on-err}

pub returns-in_err-easel-clause-failed : goal.returns-in_err-easel-clause-failed
returns-in_err-easel-clause-failed g c =
    on-err _ _ (piece-broken (frame_of c.args.head.now c.args.format) c.args.shots.now c.loop-shot.shot-index _ (g.K.Sink.state c.args.sink.now) (g.K.Sink.state c.loop-shot.sink) (g.K.Sink.state c.write_frame.new.sink) c.loop-shot-test.true c.loop-shot.invariant.written c.in_err-easel.ensures.failed)

pub loop-shot-preserved : goal.loop-shot-preserved
loop-shot-preserved g c = record {
  written = piece-written (frame_of c.args.head.now c.args.format) c.args.shots.now c.loop-shot.shot-index _ (g.K.Sink.state c.args.sink.now) (g.K.Sink.state c.loop-shot.sink) (g.K.Sink.state c.write_frame.new.sink) c.loop-shot-test.true c.loop-shot.invariant.written c.in_ok-easel.ensures.written;
  uncounted = search rules;
}

pub write_frame-requires : goal.write_frame-requires
write_frame-requires c = grind (arith, common_steps)

pub returns-clause-written : goal.returns-clause-written
returns-clause-written c = grind (arith, common_steps)
