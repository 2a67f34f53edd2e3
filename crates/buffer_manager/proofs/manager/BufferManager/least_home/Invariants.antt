use Rattle.std.proofs.Common.{◌≡◌, []}
use Rattle.std.specs.Prelude.{None, find}
use Rattle.std.specs.List.{range_with_len}
use Rattle.trace_model.specs.Place.{Pool, is_at}
use Rattle.state_facts.specs.Homes.{place_in}
use Rattle.buffer_manager.specs.Managed.{homes_with}
use Rattle.buffer_manager.proofs.manager.BufferManager.least_home.Given as goal

abbrev pub invariant-loop-step : goal.invariant-loop-step
invariant-loop-step l = find (λ b. is_at (place_in (homes_with [] l.self) b) Pool) (range_with_len l.made.first.0 l.step) ≡ None
