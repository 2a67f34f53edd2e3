use Rattle.std.proofs.Common.{refl, sym, ◌∙◌}
use Rattle.std.proofs.lemmas.List.{length-reverse}
use Rattle.turn_lock.specs.Seats.{fixed_of, view}
use Rattle.shared_camera.specs.Cameras.{script_of}
use Rattle.shared_camera.proofs.Turning.{done-still, jobs-still, may-stay, turned-still}
use Rattle.shared_camera.proofs.shared.Shared.done_turn.Goals as goal

pub leave-requires-clause-value : goal.leave-requires-clause-value
leave-requires-clause-value g c =
    let old = c.enter-held.result.value.service in
    may-stay (fixed_of script_of c.args.self.now.turnstile) (view c.args.seat.now) (view c.enter-held.new.seat) old old c.enter-held.ensures.turn refl

pub returns-clause-jobs : goal.returns-clause-jobs
returns-clause-jobs g c =
    let old = c.enter-held.result.value.service in
    jobs-still (fixed_of script_of c.args.self.now.turnstile) (view c.args.seat.now) (view c.enter-held.new.seat) old old c.enter-held.ensures.turn (view c.leave.new.seat) c.leave.ensures.turn refl

pub leave-requires-clause-count : goal.leave-requires-clause-count
leave-requires-clause-count g c = length-reverse c.enter-held.result.value.service.history ∙ sym c.moves-unchanged.ensures

pub returns-clause-turn : goal.returns-clause-turn
returns-clause-turn g c =
    let old = c.enter-held.result.value.service in
    turned-still (fixed_of script_of c.args.self.now.turnstile) (view c.args.seat.now) (view c.enter-held.new.seat) old old c.enter-held.ensures.turn (view c.leave.new.seat) c.leave.ensures.turn refl c.is_a_run.ensures.run

pub returns-clause-done : goal.returns-clause-done
returns-clause-done g c =
    let old = c.enter-held.result.value.service in
    done-still (fixed_of script_of c.args.self.now.turnstile) (view c.args.seat.now) (view c.enter-held.new.seat) old old c.enter-held.ensures.turn (view c.leave.new.seat) c.leave.ensures.turn c.done-done.result refl c.done-done.ensures
