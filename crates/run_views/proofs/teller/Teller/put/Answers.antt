use Rattle.run_views.proofs.Pieces.{broken_now, gathered_more}
use Rattle.run_views.proofs.teller.Teller.put.Goals as goal

pub returns-in-Ok : goal.returns-in-Ok
returns-in-Ok g c =
    gathered_more c.args.bytes.now c.args.self.now.pieces c.put.new.self c.args.self.now.broken (g.K.Sink.state c.args.sink.now) (g.K.Sink.state c.put.new.sink) c.if-self.false c.in-Ok.ensures.text c.in-Ok.ensures.faults

pub returns-in-Err : goal.returns-in-Err
returns-in-Err g c =
    broken_now c.args.bytes.now c.args.self.now.pieces c.args.self.now.broken (g.K.Sink.state c.args.sink.now) (g.K.Sink.state c.put.new.sink) c.if-self.false c.in-Err.ensures.failed c.in-Err.ensures.faults
