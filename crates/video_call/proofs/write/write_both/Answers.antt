use Rattle.std.proofs.lemmas.Grind.{common_steps}
use Rattle.std.proofs.Common.{arith}
use Rattle.io_edge.specs.States.{Breaks}
use Rattle.video_call.proofs.Written.{second-broken}
use Rattle.video_call.proofs.write.write_both.Goals as goal
use Rattle.basic_lemmas.proofs.Options.{err-as}

pub returns-clause-failed : goal.returns-clause-failed
returns-clause-failed g c =
    err-as _ _ c.write_all-2.result (λ (b : Breaks (g.K.Sink.state c.write_all.new.sink) (g.K.Sink.state c.write_all-2.new.sink) c.args.body.now). second-broken (g.K.Sink.state c.args.sink.now) (g.K.Sink.state c.write_all.new.sink) (g.K.Sink.state c.write_all-2.new.sink) c.args.head.now c.args.body.now c.in_ok-write_all.ensures.ok b) c.write_all-2.ensures.failed

pub returns-in_err-write_all-clause-failed : goal.returns-in_err-write_all-clause-failed
returns-in_err-write_all-clause-failed c = grind (arith, common_steps)

pub returns-clause-written : goal.returns-clause-written
returns-clause-written c = grind (arith, common_steps)
