use Rattle.std.proofs.Common.{◌≡◌, ◌≤◌, []}
use Rattle.buffer_manager.specs.Managed.{away_count, homes_with}
use Rattle.buffer_manager.proofs.manager.BufferManager.away_count.Given as goal

abbrev pub invariant-loop-step : goal.invariant-loop-step
invariant-loop-step l = record {
  counted : l.away ≡ away_count (homes_with [] l.self) l.made.first.0 l.step;
  few : l.away ≤ l.step;
}
