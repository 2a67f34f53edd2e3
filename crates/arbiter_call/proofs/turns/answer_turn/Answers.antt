use Rattle.std.proofs.Common.{◌≡◌, ℕ, List, refl, ap, sym, subst, ◌∙◌}
use mathlib.Core.List.{IsPrefix}
use Rattle.turn_lock.proofs.Beginnings.{begins_through}
use Rattle.turn_lock.proofs.ForCallers.{idle, may_leave, own_jobs}
use Rattle.turn_lock.specs.Seats.{view}
use Rattle.turn_lock.specs.declared.view.View.{View}
use Rattle.arbiter_call.specs.declared.answer.LogLine.{LogLine}
use Rattle.arbiter_call.proofs.turns.answer_turn.Goals as goal

pub leave-requires-clause-value : goal.leave-requires-clause-value
leave-requires-clause-value g c =
    let answer = c.try_answer-answer.ensures in
    may_leave _ _ _ _ _ _ _ _ c.enter-held.ensures.turn answer.cameras answer.begins refl

pub returns-clause-done : goal.returns-clause-done
returns-clause-done g c =
    let enters = c.enter-held.ensures.turn in
    let leaves = c.leave.ensures.turn in
    let answer = c.try_answer-answer.ensures in
    let jobs = own_jobs _ _ _ _ _ _ _ _ enters answer.cameras answer.begins (view c.leave.new.seat) leaves refl in
    (((c.leave.ensures.seat, ap (λ (v : View ℕ LogLine (Unit {0})). v.holds) leaves.is), idle (view c.args.seat.now).jobs (view c.leave.new.seat).jobs jobs c.requires.idle.1), (ap (λ (v : View ℕ LogLine (Unit {0})). v.number) leaves.is ∙ ap (λ (v : View ℕ LogLine (Unit {0})). v.number) enters.is, ap (λ (v : View ℕ LogLine (Unit {0})). v.others) leaves.is ∙ ap (λ (v : View ℕ LogLine (Unit {0})). v.others) enters.is, ap (λ (v : View ℕ LogLine (Unit {0})). v.made) leaves.is ∙ ap (λ (v : View ℕ LogLine (Unit {0})). v.made) enters.is))

pub returns-clause-begins : goal.returns-clause-begins
returns-clause-begins g c =
    let enters = c.enter-held.ensures.turn in
    let leaves = c.leave.ensures.turn in
    let seen = ap (λ (v : View ℕ LogLine (Unit {0})). v.seen) leaves.is in
    subst (λ (l : List LogLine). IsPrefix (view c.args.seat.now).seen l) (sym seen) (begins_through _ _ _ enters.begins c.try_answer-answer.ensures.begins)
