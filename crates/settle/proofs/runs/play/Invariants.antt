use Rattle.std.proofs.Common.{◌≡◌, ◌-◌, length}
use Rattle.run_model.specs.Bounds.{move_bound}
use Rattle.run_model.specs.Played.{IsPlayed}
use Rattle.settle.specs.Stepping.{HoldsJobs}
use Rattle.settle.proofs.runs.play.Given as goal

-- the history was made by the picks
abbrev pub invariant-loop-service : goal.invariant-loop-service
invariant-loop-service l = record {
  same : l.service.script ≡ l.initial.service.script;
  jobs : HoldsJobs l.service l.hands;
  played : IsPlayed l.service.script l.service.history;
}

abbrev pub decreases-loop-service : goal.decreases-loop-service
decreases-loop-service l = move_bound l.service.script - length l.service.history
