use Rattle.std.proofs.Common.{rules, sym, subst, List, ℕ}
use Rattle.std.proofs.lemmas.List.Sorted.{IsPermutation-trans}
use Rattle.turn_lock.specs.Seats.{view}
use Rattle.turn_lock.proofs.Beginnings.{begins_through}
use Rattle.turn_lock.proofs.ForCallers.{same_seat}
use Rattle.turn_lock.specs.Tallies.{StandFrom}
use Rattle.turn_lock.proofs.Places.{one_more}
use Rattle.turn_lock.proofs.turns.add_all.Goals as goal

pub returns-in_err-place-clause-seat : goal.returns-in_err-place-clause-seat
returns-in_err-place-clause-seat g c = (c.add_turn.ensures.seat.0, same_seat (view c.args.seat.now) (view c.loop-offset.seat) (view c.add_turn.new.seat) c.loop-offset.invariant.same c.add_turn.ensures.seat.1)

pub returns-in_err-place-clause-begins : goal.returns-in_err-place-clause-begins
returns-in_err-place-clause-begins g c = begins_through _ _ _ c.loop-offset.invariant.begins c.add_turn.ensures.begins

pub returns-in_err-push-clause-seat : goal.returns-in_err-push-clause-seat
returns-in_err-push-clause-seat g c = (c.add_turn.ensures.seat.0, same_seat (view c.args.seat.now) (view c.loop-offset.seat) (view c.add_turn.new.seat) c.loop-offset.invariant.same c.add_turn.ensures.seat.1)

pub returns-in_err-push-clause-begins : goal.returns-in_err-push-clause-begins
returns-in_err-push-clause-begins g c = begins_through _ _ _ c.loop-offset.invariant.begins c.add_turn.ensures.begins

pub returns-in_err-place-clause-jobs : goal.returns-in_err-place-clause-jobs
returns-in_err-place-clause-jobs g c = IsPermutation-trans _ _ _ c.add_turn.ensures.jobs c.loop-offset.invariant.jobs

pub returns-in_err-push-clause-jobs : goal.returns-in_err-push-clause-jobs
returns-in_err-push-clause-jobs g c = IsPermutation-trans _ _ _ c.add_turn.ensures.jobs c.loop-offset.invariant.jobs

pub loop-offset-preserved : goal.loop-offset-preserved
loop-offset-preserved g c =
    let before = c.loop-offset.invariant in let turn = c.add_turn.ensures in
    let seen = (view c.loop-offset.seat).seen in let more = (view c.add_turn.new.seat).seen in
    let places = c.loop-offset.places.items in record {
      ready = turn.seat.0;
      same = same_seat (view c.args.seat.now) (view c.loop-offset.seat) (view c.add_turn.new.seat) before.same turn.seat.1;
      begins = begins_through _ _ _ before.begins turn.begins;
      places = search rules;
      stand = subst (λ (l : List ℕ). StandFrom more l c.args.from) (sym c.in_ok-push.ensures.items)
          (one_more seen more places c.in_ok-place.place c.args.from c.loop-offset.offset turn.begins before.places before.stand c.in_ok-place.ensures.added.0);
      jobs = IsPermutation-trans _ _ _ turn.jobs before.jobs;
    }
