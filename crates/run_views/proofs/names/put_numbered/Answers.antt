use Rattle.std.proofs.Common.{decimal}
use Rattle.run_views.proofs.Pieces.{behind}
use Rattle.run_views.proofs.names.put_numbered.Goals as goal

pub returns : goal.returns
returns g c =
    behind c.args.front.now (decimal c.args.number) c.args.teller.now c.put.new.self c.put_number.new.self (g.K.Sink.state c.args.sink.now) (g.K.Sink.state c.put.new.sink) (g.K.Sink.state c.put_number.new.sink) c.put.ensures (rw c.from.ensures at c.put_number.ensures)
