use Rattle.std.proofs.Common.{refl, rules}
use Rattle.run_views.proofs.Moves.{more_made, none_made}
use Rattle.run_views.proofs.playing.tell_moves.Goals as goal

pub loop-service-init : goal.loop-service-init
loop-service-init g c = record {
  same = refl;
  jobs = c.requires.jobs;
  played = c.requires.played;
  told = none_made c.args.service.now c.args.service.now c.args.teller.now (g.K.Sink.state c.args.sink.now) refl;
}

pub loop-service-preserved : goal.loop-service-preserved
loop-service-preserved g c = record {
  same = search rules;
  jobs = search rules;
  played = search rules;
  told = more_made c.args.service.now c.loop-service.service c.tell_move.new.service c.args.teller.now c.loop-service.teller c.tell_move.new.teller (g.K.Sink.state c.args.sink.now) (g.K.Sink.state c.loop-service.sink) (g.K.Sink.state c.tell_move.new.sink) c.loop-service.invariant.told c.tell_move.ensures.told;
}
