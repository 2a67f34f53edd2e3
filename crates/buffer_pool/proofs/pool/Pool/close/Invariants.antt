use Rattle.std.proofs.Common.{◌≡◌, true, length}
use Rattle.std.specs.List.{list_all}
use Rattle.buffer_pool.specs.Fences.{made}
use Rattle.buffer_pool.specs.Parked.{has_made_waiter}
use Rattle.buffer_pool.proofs.pool.Pool.close.Given as goal

abbrev pub invariant-loop-parked : goal.invariant-loop-parked
invariant-loop-parked l = record {
  fences : l.fences ≡ l.initial.fences;
  waiters : list_all (has_made_waiter (made l.initial.fences)) l.pool.home ≡ true;
}

abbrev pub decreases-loop-parked : goal.decreases-loop-parked
decreases-loop-parked l = length l.pool.home
