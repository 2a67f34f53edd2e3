use Rattle.std.proofs.Common.{sym, ◌∙◌}
use Rattle.std.proofs.lemmas.List.{length-reverse}
use Rattle.turn_lock.specs.Seats.{fixed_of, view}
use Rattle.shared_camera.specs.Cameras.{script_of}
use Rattle.shared_camera.specs.Choices.{first_of_kinds}
use Rattle.shared_camera.proofs.Turning.{answered-chosen, jobs-chosen, may-leave-chosen, turned-chosen}
use Rattle.shared_camera.proofs.shared.Shared.step_turn.Goals as goal

pub leave-requires-clause-value : goal.leave-requires-clause-value
leave-requires-clause-value g c =
    let old = c.enter-held.result.value.service in
    let new = c.make_first-answer.new.service in
    may-leave-chosen (fixed_of script_of c.args.self.now.turnstile) (view c.args.seat.now) (view c.enter-held.new.seat) old new c.enter-held.ensures.turn c.args.kinds.now c.make_first-answer.result c.requires.alone c.make_first-answer.ensures

pub returns-clause-turn : goal.returns-clause-turn
returns-clause-turn g c =
    let old = c.enter-held.result.value.service in
    let new = c.make_first-answer.new.service in
    turned-chosen (fixed_of script_of c.args.self.now.turnstile) (view c.args.seat.now) (view c.enter-held.new.seat) old new c.enter-held.ensures.turn (view c.leave.new.seat) c.leave.ensures.turn (first_of_kinds c.args.kinds.now) c.make_first-answer.result c.make_first-answer.ensures c.is_a_run.ensures.run

pub returns-clause-answer : goal.returns-clause-answer
returns-clause-answer g c =
    let old = c.enter-held.result.value.service in
    let new = c.make_first-answer.new.service in
    answered-chosen (fixed_of script_of c.args.self.now.turnstile) (view c.args.seat.now) (view c.enter-held.new.seat) old new c.enter-held.ensures.turn (view c.leave.new.seat) c.leave.ensures.turn (first_of_kinds c.args.kinds.now) c.make_first-answer.result c.make_first-answer.ensures

pub returns-clause-jobs : goal.returns-clause-jobs
returns-clause-jobs g c =
    let old = c.enter-held.result.value.service in
    let new = c.make_first-answer.new.service in
    jobs-chosen (fixed_of script_of c.args.self.now.turnstile) (view c.args.seat.now) (view c.enter-held.new.seat) old new c.enter-held.ensures.turn (view c.leave.new.seat) c.leave.ensures.turn c.args.kinds.now c.make_first-answer.result c.requires.alone c.make_first-answer.ensures

pub leave-requires-clause-count : goal.leave-requires-clause-count
leave-requires-clause-count g c = length-reverse c.make_first-answer.new.service.history ∙ sym c.moves-moves.ensures
