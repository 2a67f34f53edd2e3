use Rattle.std.proofs.Common.{◌-◌, length}
use Rattle.run_model.specs.Bounds.{move_bound}
use Rattle.settle.specs.Stepping.{HoldsJobs, IsFinishedBy}
use Rattle.settle.proofs.runs.finish.Given as goal

-- jobs alone were given back
abbrev pub invariant-loop-job : goal.invariant-loop-job
invariant-loop-job l = record {
  jobs : HoldsJobs l.service l.hands;
  finished : IsFinishedBy l.initial.service l.service;
}

abbrev pub decreases-loop-job : goal.decreases-loop-job
decreases-loop-job l = move_bound l.service.script - length l.service.history
