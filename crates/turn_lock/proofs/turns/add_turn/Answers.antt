use Rattle.std.proofs.lemmas.Grind.{common_steps}
use Rattle.std.proofs.Common.{ℕ, ap, arith, vec_len}
use Rattle.turn_lock.specs.Seats.{view}
use Rattle.turn_lock.specs.declared.view.View.{View}
use Rattle.turn_lock.proofs.ForCallers.{may_leave, own_jobs}
use Rattle.turn_lock.proofs.Places.{stands_last}
use Rattle.turn_lock.proofs.turns.add_turn.Goals as goal

pub leave-requires-clause-value : goal.leave-requires-clause-value
leave-requires-clause-value g c =
    let added = c.add-place.ensures in
    may_leave _ _ _ _ _ _ _ _ c.enter-held.ensures.turn added.others.0 added.begins added.others.1

pub returns-clause-jobs : goal.returns-clause-jobs
returns-clause-jobs g c =
    let added = c.add-place.ensures in
    own_jobs _ _ _ _ _ _ _ _ c.enter-held.ensures.turn added.others.0 added.begins _ c.leave.ensures.turn added.others.1

pub returns-clause-added : goal.returns-clause-added
returns-clause-added g c =
    let old = c.enter-held.result.value.entries in
    let seen = ap (λ (v : View ℕ ℕ ℕ). v.seen) c.leave.ensures.turn.is in
    stands_last c.add-place.result old.items c.add-place.new.self.entries.items (view c.leave.new.seat).seen (vec_len old) c.args.entry (omega arith) seen c.add-place.ensures.added

pub returns-clause-begins : goal.returns-clause-begins
returns-clause-begins c = grind (arith, common_steps)
