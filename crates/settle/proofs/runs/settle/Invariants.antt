use Rattle.std.proofs.Common.{◌-◌, length}
use Rattle.run_model.specs.Bounds.{move_bound}
use Rattle.settle.specs.Stepping.{HoldsJobs}
use Rattle.settle.proofs.Settling.{Adds}
use Rattle.settle.proofs.runs.settle.Given as goal

-- so many moves were added
abbrev pub invariant-loop-service : goal.invariant-loop-service
invariant-loop-service l = record {
  jobs : HoldsJobs l.service l.hands;
  added : Adds l.initial.service l.service l.count;
}

abbrev pub decreases-loop-service : goal.decreases-loop-service
decreases-loop-service l = move_bound l.service.script - length l.service.history
