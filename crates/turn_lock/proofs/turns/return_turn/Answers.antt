use Rattle.std.proofs.Common.{◌++◌}
use Rattle.std.proofs.lemmas.List.Elements.{Contains-append_left}
use Rattle.std.proofs.lemmas.List.Sorted.{IsPermutation-sym, Contains-permutation}
use Rattle.turn_lock.specs.Seats.{view}
use Rattle.turn_lock.proofs.ForCallers.{may_leave_without, own_jobs_without}
use Rattle.turn_lock.proofs.turns.return_turn.Goals as goal

pub take_back-requires : goal.take_back-requires
take_back-requires g c =
    let v = view c.args.seat.now in let w = view c.enter-held.new.seat in let out = c.enter-held.result.value.out.items in
    Contains-permutation (v.jobs ++ w.rest) out c.args.ticket (IsPermutation-sym out (v.jobs ++ w.rest) c.enter-held.ensures.turn.parts) (Contains-append_left v.jobs w.rest c.args.ticket c.requires.out)

pub leave-requires-clause-value : goal.leave-requires-clause-value
leave-requires-clause-value g c =
    let back = c.take_back.ensures in
    may_leave_without _ _ _ _ _ _ _ _ c.enter-held.ensures.turn back.others.0 back.begins c.args.ticket back.taken c.requires.out

pub returns-clause-returned : goal.returns-clause-returned
returns-clause-returned g c =
    let back = c.take_back.ensures in
    own_jobs_without _ _ _ _ _ _ _ _ c.enter-held.ensures.turn back.others.0 back.begins _ c.args.ticket c.leave.ensures.turn back.taken c.requires.out
