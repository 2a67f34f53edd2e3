use Rattle.std.proofs.Common.{◌≡◌, ◌-◌, length}
use Rattle.run_model.specs.Bounds.{move_bound}
use Rattle.run_model.specs.Played.{IsPlayed}
use Rattle.settle.specs.Stepping.{HoldsJobs}
use Rattle.run_views.specs.Told.{TellsMoves}
use Rattle.run_views.proofs.playing.tell_moves.Given as goal

-- the history was made by the picks, and its moves are told
abbrev pub invariant-loop-service : goal.invariant-loop-service
invariant-loop-service g l = record {
  same : l.service.script ≡ l.initial.service.script;
  jobs : HoldsJobs l.service l.hands;
  played : IsPlayed l.service.script l.service.history;
  told : TellsMoves l.initial.service l.service l.initial.teller l.teller (g.K.Sink.state l.initial.sink) (g.K.Sink.state l.sink);
}

abbrev pub decreases-loop-service : goal.decreases-loop-service
decreases-loop-service g l = move_bound l.service.script - length l.service.history
