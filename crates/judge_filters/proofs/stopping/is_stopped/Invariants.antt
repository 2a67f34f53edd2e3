use Rattle.std.proofs.Common.{◌≡◌, reverse, take}
use Rattle.trace_model.specs.Frames.{is_sent}
use Rattle.trace_model.specs.Stopping.{is_stopped}
use Rattle.judge_filters.proofs.stopping.is_stopped.Given as goal

abbrev pub invariant-loop-entry : goal.invariant-loop-entry
invariant-loop-entry l = record {
  sent : l.sent ≡ is_sent l.frame.0 (reverse (take l.entry-index l.entries));
  stopped : l.stopped ≡ is_stopped l.frame.0 (reverse (take l.entry-index l.entries));
}
