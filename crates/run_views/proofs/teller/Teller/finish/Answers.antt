use Rattle.run_views.proofs.Pieces.{broken_at_end}
use Rattle.run_views.proofs.teller.Teller.finish.Goals as goal

pub returns : goal.returns
returns g c = λ first text h.
    broken_at_end c.args.self.pieces text c.args.self.broken first (g.K.Sink.state c.args.sink.now) (g.K.Sink.state c.flush.new.sink) c.if-self.false h c.in-Err.ensures.failed c.in-Err.ensures.faults
