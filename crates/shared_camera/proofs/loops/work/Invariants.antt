use mathlib.Core.List.{IsPrefix}
use Rattle.turn_lock.specs.Lending.{IsDone}
use Rattle.turn_lock.specs.Seats.{view}
use Rattle.shared_camera.specs.Cameras.{script_of}
use Rattle.shared_camera.proofs.loops.work.Given as goal

abbrev pub invariant-loop : goal.invariant-loop
invariant-loop g l = record {
  done : IsDone script_of l.shared.turnstile (view l.fn.seat) l.seat;
  begins : IsPrefix (view l.fn.seat).seen (view l.seat).seen;
}
