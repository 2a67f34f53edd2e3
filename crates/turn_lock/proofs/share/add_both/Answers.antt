use Rattle.std.proofs.Common.{ℕ, List, ap, subst, ◌∙◌, refl}
use mathlib.Core.List.{IsPrefix}
use Rattle.turn_lock.specs.Seats.{view}
use Rattle.turn_lock.specs.declared.tally.Tally.{Tally}
use Rattle.turn_lock.specs.declared.view.View.{View}
use Rattle.turn_lock.proofs.Beginnings.{begins_itself, begins_through}
use Rattle.turn_lock.proofs.ForCallers.{idle, same_others}
use Rattle.turn_lock.proofs.Places.{still_there}
use Rattle.turn_lock.proofs.share.add_both.Goals as goal

pub split-first-requires-clause-seat : goal.split-first-requires-clause-seat
split-first-requires-clause-seat g c = c.in-Ok.ensures.made.0

pub split-first-requires-clause-root : goal.split-first-requires-clause-root
split-first-requires-clause-root g c = ap (λ (v : View ℕ ℕ ℕ). v.number) c.in-Ok.ensures.root

pub split-second-requires-clause-seat : goal.split-second-requires-clause-seat
split-second-requires-clause-seat g c = c.split-first.ensures.seats.0

pub split-second-requires-clause-root : goal.split-second-requires-clause-root
split-second-requires-clause-root g c =
    let number = λ (v : View ℕ ℕ ℕ). v.number in ap number c.split-first.ensures.root ∙ ap number c.in-Ok.ensures.root

pub join-requires-clause-seats : goal.join-requires-clause-seats
join-requires-clause-seats g c = (c.split-second.ensures.seats.0, c.side_by_side-a.ensures.back.1.0.0)

pub join-requires-clause-root : goal.join-requires-clause-root
join-requires-clause-root g c =
    let number = λ (v : View ℕ ℕ ℕ). v.number in
    ap number c.split-second.ensures.root ∙ (ap number c.split-first.ensures.root ∙ ap number c.in-Ok.ensures.root)

pub join-requires-clause-done : goal.join-requires-clause-done
join-requires-clause-done g c = let back = c.side_by_side-a.ensures.back.1 in (back.0.1, idle _ _ back.3 (ap (λ v. v.jobs) c.split-second.ensures.split_off))

pub join-requires-2-clause-seats : goal.join-requires-2-clause-seats
join-requires-2-clause-seats g c = (c.join.ensures.seat, c.side_by_side-a.ensures.back.0.0.0)

pub join-requires-2-clause-root : goal.join-requires-2-clause-root
join-requires-2-clause-root g c =
    let number = λ (v : View ℕ ℕ ℕ). v.number in
    ap number c.join.ensures.joined.is
    ∙ (ap number c.split-second.ensures.root ∙ (ap number c.split-first.ensures.root ∙ ap number c.in-Ok.ensures.root))

pub join-requires-2-clause-done : goal.join-requires-2-clause-done
join-requires-2-clause-done g c = let back = c.side_by_side-a.ensures.back.0 in (back.0.1, idle _ _ back.3 (ap (λ v. v.jobs) c.split-first.ensures.split_off))

pub close-requires-clause-seat : goal.close-requires-clause-seat
close-requires-clause-seat g c = c.join-2.ensures.seat

pub close-requires-clause-root : goal.close-requires-clause-root
close-requires-clause-root g c =
    let number = λ (v : View ℕ ℕ ℕ). v.number in
    ap number c.join-2.ensures.joined.is
    ∙ (ap number c.join.ensures.joined.is
    ∙ (ap number c.split-second.ensures.root ∙ (ap number c.split-first.ensures.root ∙ ap number c.in-Ok.ensures.root)))

pub close-requires-clause-alone : goal.close-requires-clause-alone
close-requires-clause-alone g c =
    let first = c.split-first.ensures in
    let second = c.split-second.ensures in
    let back = c.side_by_side-a.ensures.back in
    let once = same_others _ _ _ _ _ _ second.root second.split_off refl back.1.1 c.join.ensures.joined in
    let twice = same_others _ _ _ _ _ _ first.root first.split_off once back.0.1 c.join-2.ensures.joined in
    twice ∙ ap (λ (v : View ℕ ℕ ℕ). v.others) c.in-Ok.ensures.root

pub close-requires-clause-free : goal.close-requires-clause-free
close-requires-clause-free g c =
    let holds = λ (v : View ℕ ℕ ℕ). v.holds in
    ap holds c.join-2.ensures.joined.is
    ∙ (ap holds c.join.ensures.joined.is
    ∙ (ap holds c.split-second.ensures.root ∙ (ap holds c.split-first.ensures.root ∙ ap holds c.in-Ok.ensures.root)))

pub returns-clause-name : goal.returns-clause-name
returns-clause-name g c = c.close.ensures.fixed ∙ c.in-Ok.ensures.made.1

pub returns-in-Err-clause-name : goal.returns-in-Err-clause-name
returns-in-Err-clause-name g c = ap (λ (tally : Tally). tally.name) c.in-Err.ensures.back

pub returns-in-Err-clause-begins : goal.returns-in-Err-clause-begins
returns-in-Err-clause-begins g c = rw c.in-Err.ensures.back (begins_itself c.args.tally.entries.items)

pub returns-clause-begins : goal.returns-clause-begins
returns-clause-begins g c =
    let seen = λ (v : View ℕ ℕ ℕ). v.seen in
    let same = ap seen c.split-second.ensures.root ∙ (ap seen c.split-first.ensures.root ∙ ap seen c.in-Ok.ensures.root) in
    let begun = subst (λ (es : List ℕ). IsPrefix es (view c.join.new.root).seen) same c.join.ensures.joined.own in
    rw c.close.ensures.entries (begins_through _ _ _ begun c.join-2.ensures.joined.own)

pub returns-clause-first : goal.returns-clause-first
returns-clause-first g c = still_there _ _ _ _ (rw c.close.ensures.entries c.join-2.ensures.joined.other) c.side_by_side-a.ensures.first

pub returns-clause-second : goal.returns-clause-second
returns-clause-second g c = still_there _ _ _ _ (rw c.close.ensures.entries (begins_through _ _ _ c.join.ensures.joined.other c.join-2.ensures.joined.own)) c.side_by_side-a.ensures.second
