use Rattle.std.proofs.Common.{◌∷◌, codes, decimal}
use Rattle.run_views.specs.Names.{step_text}
use Rattle.run_views.proofs.Pieces.{behind}
use Rattle.run_views.proofs.listing.put_named.Goals as goal

pub returns : goal.returns
returns g c =
    let last = behind (codes " ") (step_text c.args.step) c.put_number.new.self c.put.new.self c.put_step.new.teller (g.K.Sink.state c.put_number.new.sink) (g.K.Sink.state c.put.new.sink) (g.K.Sink.state c.put_step.new.sink) c.put.ensures c.put_step.ensures in
    behind (decimal c.args.place) (32 ∷ step_text c.args.step) c.args.teller.now c.put_number.new.self c.put_step.new.teller (g.K.Sink.state c.args.sink.now) (g.K.Sink.state c.put_number.new.sink) (g.K.Sink.state c.put_step.new.sink) c.put_number.ensures last
