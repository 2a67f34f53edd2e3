use Rattle.std.proofs.Common.{◌==◌}
use Rattle.run_views.specs.Listing.{front_of, shown}
use Rattle.run_views.proofs.Pieces.{behind}
use Rattle.run_views.proofs.listing.put_candidate.Goals as goal

pub returns : goal.returns
returns g c =
    behind (front_of c.args.place) (shown (c.args.place == c.args.pick) c.args.place c.args.step) c.args.teller.now c.put.new.self c.put_shown.new.teller (g.K.Sink.state c.args.sink.now) (g.K.Sink.state c.put.new.sink) (g.K.Sink.state c.put_shown.new.sink) (rw c.front_of.ensures at c.put.ensures) c.put_shown.ensures
