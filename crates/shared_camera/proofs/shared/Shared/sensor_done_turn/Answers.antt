use Rattle.std.proofs.Common.{sym, ◌∙◌}
use Rattle.std.proofs.lemmas.List.{length-reverse}
use Rattle.turn_lock.specs.Seats.{fixed_of, view}
use Rattle.shared_camera.specs.Cameras.{script_of}
use Rattle.shared_camera.proofs.Turning.{given-back, may-return, own-out, turned-return}
use Rattle.shared_camera.proofs.shared.Shared.sensor_done_turn.Goals as goal

pub end_exposure-requires : goal.end_exposure-requires
end_exposure-requires g c =
    let old = c.enter-held.result.value.service in
    own-out (fixed_of script_of c.args.self.now.turnstile) (view c.args.seat.now) (view c.enter-held.new.seat) old old c.enter-held.ensures.turn c.args.job c.requires.out c.is_a_run.ensures.run

pub leave-requires-clause-value : goal.leave-requires-clause-value
leave-requires-clause-value g c =
    let old = c.enter-held.result.value.service in
    let new = c.end_exposure.new.service in
    may-return (fixed_of script_of c.args.self.now.turnstile) (view c.args.seat.now) (view c.enter-held.new.seat) old new c.enter-held.ensures.turn c.args.job c.end_exposure.ensures c.is_a_run-2.ensures.run c.requires.out

pub returns-clause-turn : goal.returns-clause-turn
returns-clause-turn g c =
    let old = c.enter-held.result.value.service in
    let new = c.end_exposure.new.service in
    turned-return (fixed_of script_of c.args.self.now.turnstile) (view c.args.seat.now) (view c.enter-held.new.seat) old new c.enter-held.ensures.turn (view c.leave.new.seat) c.leave.ensures.turn c.args.job c.end_exposure.ensures c.is_a_run-2.ensures.run

pub returns-clause-given : goal.returns-clause-given
returns-clause-given g c =
    let old = c.enter-held.result.value.service in
    let new = c.end_exposure.new.service in
    given-back (fixed_of script_of c.args.self.now.turnstile) (view c.args.seat.now) (view c.enter-held.new.seat) old new c.enter-held.ensures.turn (view c.leave.new.seat) c.leave.ensures.turn c.args.job c.end_exposure.ensures c.is_a_run-2.ensures.run c.requires.out

pub leave-requires-clause-count : goal.leave-requires-clause-count
leave-requires-clause-count g c = length-reverse c.end_exposure.new.service.history ∙ sym c.moves-moves.ensures
