use Rattle.std.proofs.Common.{◌≡◌, ◌-◌, ◌≤◌, true, length}
use Rattle.std.specs.List.{list_all}
use Rattle.buffer_pool.specs.Fences.{made}
use Rattle.buffer_pool.specs.Blocks.{with_returned}
use Rattle.buffer_pool.specs.Opened.{is_whole}
use Rattle.buffer_pool.specs.Parked.{has_made_waiter}
use Rattle.buffer_pool.proofs.pool.Pool.close_in.Given as goal

abbrev pub invariant-loop-parked : goal.invariant-loop-parked
invariant-loop-parked l = record {
  fences : l.fences ≡ l.initial.fences;
  waiters : list_all (has_made_waiter (made l.initial.fences)) l.pool.home ≡ true;
  whole : list_all (is_whole l.format) l.pool.home ≡ true;
  left : length l.pool.home ≤ l.fn.self.count;
  returned : l.blocks ≡ with_returned l.format (l.fn.self.count - length l.pool.home) l.initial.blocks;
}

abbrev pub decreases-loop-parked : goal.decreases-loop-parked
decreases-loop-parked l = length l.pool.home
