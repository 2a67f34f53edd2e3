use Rattle.std.proofs.Common.{◌≤◌}
use mathlib.Core.List.{IsPrefix}
use Rattle.turn_lock.specs.Seats.{view}
use Rattle.turn_lock.specs.Lending.{IsDone}
use Rattle.turn_lock.specs.Tallies.{name_of}
use Rattle.turn_lock.proofs.share.add_often.Given as goal

abbrev pub invariant-loop : goal.invariant-loop
invariant-loop g l = record {
  done : IsDone name_of l.turnstile (view l.fn.seat) l.seat;
  begins : IsPrefix (view l.fn.seat).seen (view l.seat).seen;
  few : l.added ≤ l.counter;
}
