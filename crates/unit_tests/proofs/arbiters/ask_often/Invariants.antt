use Rattle.turn_lock.specs.Lending.{IsDone}
use Rattle.turn_lock.specs.Seats.{view}
use Rattle.arbiter_call.specs.Turns.{cameras_of}
use Rattle.unit_tests.proofs.arbiters.ask_often.Given as goal

abbrev pub invariant-loop : goal.invariant-loop
invariant-loop g l = IsDone cameras_of l.turnstile (view l.fn.seat) l.seat
