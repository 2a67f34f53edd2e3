use Rattle.std.proofs.Common.{◌∷◌, ◌++◌, decimal}
use Rattle.run_views.proofs.Pieces.{behind}
use Rattle.run_views.proofs.names.put_target.Goals as goal

pub returns : goal.returns
returns g c =
    behind (c.args.front.now ++ decimal c.args.frame.0) (32 ∷ decimal c.args.stream.0) c.args.teller.now c.put_numbered.new.teller c.put_numbered-2.new.teller (g.K.Sink.state c.args.sink.now) (g.K.Sink.state c.put_numbered.new.sink) (g.K.Sink.state c.put_numbered-2.new.sink) c.put_numbered.ensures (rw c.from.ensures at c.put_numbered-2.ensures)
