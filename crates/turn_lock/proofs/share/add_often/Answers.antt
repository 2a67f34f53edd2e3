use Rattle.std.proofs.Common.{arith}
use Rattle.turn_lock.specs.Seats.{view}
use Rattle.turn_lock.proofs.Beginnings.{begins_through}
use Rattle.turn_lock.proofs.ForCallers.{same_seat}
use Rattle.turn_lock.proofs.share.add_often.Goals as goal

pub returns-then-not-add_once-clause-done : goal.returns-then-not-add_once-clause-done
returns-then-not-add_once-clause-done g c =
    (c.add_once.ensures.done.0, same_seat (view c.args.seat.now) (view c.loop.seat) (view c.add_once.new.seat) c.loop.invariant.done.1 c.add_once.ensures.done.1)

pub returns-then-not-add_once-clause-begins : goal.returns-then-not-add_once-clause-begins
returns-then-not-add_once-clause-begins g c = begins_through _ _ _ c.loop.invariant.begins c.add_once.ensures.begins

pub loop-preserved : goal.loop-preserved
loop-preserved g c = record {
  done = (c.add_once.ensures.done.0, same_seat (view c.args.seat.now) (view c.loop.seat) (view c.add_once.new.seat) c.loop.invariant.done.1 c.add_once.ensures.done.1);
  begins = begins_through _ _ _ c.loop.invariant.begins c.add_once.ensures.begins;
  few = omega arith;
}
