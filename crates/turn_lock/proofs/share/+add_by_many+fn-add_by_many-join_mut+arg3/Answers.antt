use Rattle.std.proofs.Common.{ℕ, List, ap, subst, ◌∙◌, rules}
use mathlib.Core.List.{IsPrefix}
use Rattle.turn_lock.specs.Lending.{IsDone, IsRootAgain}
use Rattle.turn_lock.specs.Seats.{view}
use Rattle.turn_lock.specs.Tallies.{name_of}
use Rattle.turn_lock.specs.declared.view.View.{View}
use Rattle.turn_lock.proofs.Beginnings.{begins_through}
use Rattle.turn_lock.proofs.ForCallers.{same_others}
use Rattle.turn_lock.proofs.share.«+add_by_many+fn-add_by_many-join_mut+arg3».Goals as goal

pub returns-then-threads-lt2 : goal.returns-then-threads-lt2
returns-then-threads-lt2 g t c =
    let done = c.add_often.ensures.done in (done.0, done.1.0 ∙ c.requires.root, done.1.1, c.add_often.ensures.begins)

pub join_mut+arg3-returns : goal.join_mut+arg3-returns
join_mut+arg3-returns g t c = c.add_by_many.ensures

pub returns : goal.returns
returns g t c =
    let v = view c.args.root.now in
    let cut = view c.split-other.new.root in
    let off = view c.split-other.result in
    let root = c.root-1.given.0 in
    let other = c.other-2-1.given.0 in
    let back : IsRootAgain name_of c.args.turnstile.now cut root = search rules in
    let done : IsDone name_of c.args.turnstile.now off other = search rules in
    let joined = c.join.ensures.joined in
    let seen : IsPrefix v.seen (view root).seen = subst (λ (es : List ℕ). IsPrefix es (view root).seen) (ap (λ (x : View ℕ ℕ ℕ). x.seen) c.split-other.ensures.root) back.3 in (
      ((c.join.ensures.seat, ap (λ (x : View ℕ ℕ ℕ). x.holds) joined.is ∙ back.0.0.1), ap (λ (x : View ℕ ℕ ℕ). x.jobs) joined.is ∙ back.0.1),
      ap (λ (x : View ℕ ℕ ℕ). x.number) joined.is ∙ back.1,
      same_others v cut off (view root) (view other) (view c.join.new.root) c.split-other.ensures.root c.split-other.ensures.split_off back.2 done.1 joined,
      begins_through v.seen (view root).seen (view c.join.new.root).seen seen joined.own,
    )
