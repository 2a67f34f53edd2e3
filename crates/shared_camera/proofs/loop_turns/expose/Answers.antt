use Rattle.std.proofs.Common.{◌∙◌}
use Rattle.turn_lock.specs.Seats.{view}
use Rattle.turn_lock.proofs.Beginnings.{begins_through}
use Rattle.turn_lock.proofs.ForCallers.{idle}
use Rattle.shared_camera.proofs.LentSeats.{has-job, has-no-job}
use Rattle.shared_camera.proofs.loop_turns.expose.Goals as goal

pub sensor_done_turn-requires-clause-out : goal.sensor_done_turn-requires-clause-out
sensor_done_turn-requires-clause-out g c =
    has-job c.in-Began.job c.expose_bands.result (view c.args.seat.now).jobs (view c.shutter_turn.new.seat).jobs c.expose_bands.ensures c.in-Began.ensures.answer.handed.jobs

pub returns-in-Began-clause-done : goal.returns-in-Began-clause-done
returns-in-Began-clause-done g c =
    let took = c.shutter_turn.ensures in
    let gave = c.sensor_done_turn.ensures in
    let none = has-no-job c.in-Began.job c.expose_bands.result (view c.args.seat.now).jobs (view c.shutter_turn.new.seat).jobs (view c.sensor_done_turn.new.seat).jobs c.expose_bands.ensures c.in-Began.ensures.answer.handed.jobs c.requires.1 gave.given.jobs in
    let before = took.seat.1 in
    let after = gave.seat.1 in
    ((gave.seat.0, none), (after.0 ∙ before.0, after.1 ∙ before.1, after.2 ∙ before.2))

pub returns-in-Began-clause-begins : goal.returns-in-Began-clause-begins
returns-in-Began-clause-begins g c = begins_through _ _ _ c.shutter_turn.ensures.turn.begins c.sensor_done_turn.ensures.turn.begins

pub returns-in-NotBegun-clause-done : goal.returns-in-NotBegun-clause-done
returns-in-NotBegun-clause-done g c = let turn = c.shutter_turn.ensures in ((turn.seat.0, idle _ _ c.in-NotBegun.ensures.answer.jobs c.requires.1), turn.seat.1)
