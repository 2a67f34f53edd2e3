use Rattle.std.proofs.Common.{codes}
use Rattle.run_views.specs.Names.{target_text}
use Rattle.run_views.proofs.Pieces.{behind}
use Rattle.run_views.proofs.names.put_returned.Goals as goal

pub returns : goal.returns
returns g c =
    behind (target_text (codes "buffer ") c.args.frame c.args.stream) c.args.how.now c.args.teller.now c.put_target.new.teller c.put.new.self (g.K.Sink.state c.args.sink.now) (g.K.Sink.state c.put_target.new.sink) (g.K.Sink.state c.put.new.sink) c.put_target.ensures c.put.ensures
