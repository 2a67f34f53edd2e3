use Rattle.std.proofs.Common.{◌++◌, codes}
use Rattle.run_views.specs.Listing.{named}
use Rattle.run_views.proofs.Pieces.{behind}
use Rattle.run_views.proofs.listing.put_chosen.Goals as goal

pub returns : goal.returns
returns g c =
    let text = named c.args.place c.args.step in
    let last = behind text (codes "]") c.put.new.self c.put_named.new.teller c.put-2.new.self (g.K.Sink.state c.put.new.sink) (g.K.Sink.state c.put_named.new.sink) (g.K.Sink.state c.put-2.new.sink) c.put_named.ensures c.put-2.ensures in
    behind (codes "[") (text ++ codes "]") c.args.teller.now c.put.new.self c.put-2.new.self (g.K.Sink.state c.args.sink.now) (g.K.Sink.state c.put.new.sink) (g.K.Sink.state c.put-2.new.sink) c.put.ensures last
