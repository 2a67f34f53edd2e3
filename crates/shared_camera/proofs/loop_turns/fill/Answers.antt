use Rattle.std.proofs.Common.{◌∙◌}
use Rattle.turn_lock.specs.Seats.{view}
use Rattle.turn_lock.proofs.Beginnings.{begins_through}
use Rattle.turn_lock.proofs.ForCallers.{idle}
use Rattle.shared_camera.proofs.LentSeats.{has-job, has-no-job}
use Rattle.shared_camera.proofs.loop_turns.fill.Goals as goal

pub fill_done_turn-requires-clause-out : goal.fill_done_turn-requires-clause-out
fill_done_turn-requires-clause-out g c =
    has-job c.in-Some.job c.pass.result (view c.args.seat.now).jobs (view c.take_fill_turn.new.seat).jobs c.pass.ensures c.in-Some.ensures.answer.handed.jobs

pub returns-in-Some-clause-done : goal.returns-in-Some-clause-done
returns-in-Some-clause-done g c =
    let took = c.take_fill_turn.ensures in
    let gave = c.fill_done_turn.ensures in
    let none = has-no-job c.in-Some.job c.pass.result (view c.args.seat.now).jobs (view c.take_fill_turn.new.seat).jobs (view c.fill_done_turn.new.seat).jobs c.pass.ensures c.in-Some.ensures.answer.handed.jobs c.requires.1 gave.given.jobs in
    let before = took.seat.1 in
    let after = gave.seat.1 in
    ((gave.seat.0, none), (after.0 ∙ before.0, after.1 ∙ before.1, after.2 ∙ before.2))

pub returns-in-Some-clause-begins : goal.returns-in-Some-clause-begins
returns-in-Some-clause-begins g c = begins_through _ _ _ c.take_fill_turn.ensures.turn.begins c.fill_done_turn.ensures.turn.begins

pub returns-in-None-clause-done : goal.returns-in-None-clause-done
returns-in-None-clause-done g c = let turn = c.take_fill_turn.ensures in ((turn.seat.0, idle _ _ c.in-None.ensures.answer.jobs c.requires.1), turn.seat.1)
