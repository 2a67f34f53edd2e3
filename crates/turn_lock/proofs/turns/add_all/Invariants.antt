use Rattle.std.proofs.Common.{◌≡◌, length, IsPermutation}
use mathlib.Core.List.{IsPrefix}
use Rattle.turn_lock.specs.Seats.{view}
use Rattle.turn_lock.specs.Lending.{IsReady, SameSeat}
use Rattle.turn_lock.specs.Tallies.{StandFrom, name_of}
use Rattle.turn_lock.proofs.turns.add_all.Given as goal

abbrev pub invariant-loop-offset : goal.invariant-loop-offset
invariant-loop-offset g l = record {
  ready : IsReady name_of l.turnstile l.seat;
  same : SameSeat (view l.fn.seat) (view l.seat);
  begins : IsPrefix (view l.fn.seat).seen (view l.seat).seen;
  places : length l.places.items ≡ l.offset;
  stand : StandFrom (view l.seat).seen l.places.items l.from;
  jobs : IsPermutation (view l.seat).jobs (view l.fn.seat).jobs;
}
