use Rattle.std.proofs.Common.{◌≡◌, List, ap, subst, ◌∙◌, rules}
use mathlib.Core.List.{IsPrefix}
use Rattle.turn_lock.specs.Lending.{IsDone, IsReady, IsRootAgain}
use Rattle.turn_lock.specs.Seats.{view}
use Rattle.turn_lock.specs.Turns.{Joins, split_off, splitting}
use Rattle.turn_lock.specs.declared.seat.Seat.{Seat}
use Rattle.turn_lock.specs.declared.turnstile.Turnstile.{Turnstile}
use Rattle.turn_lock.specs.declared.view.View.{View}
use Rattle.turn_lock.proofs.Beginnings.{begins_through}
use Rattle.turn_lock.proofs.ForCallers.{same_others}
use Rattle.shared_camera.specs.Cameras.{script_of}
use Rattle.shared_camera.proofs.workers.«+fn-side_by_side-join_mut+arg3+side_by_side».Goals as goal

module _ {S F E J : Type 0} (fixed : S → F) (turnstile : Turnstile S F E J) where
  -- the root once the seat that was split off is joined again
  root-again : (v cut off : View F E J) (root other new : Seat S F E J) → cut ≡ splitting v → off ≡ split_off v → IsRootAgain fixed turnstile cut root → IsDone fixed turnstile off other → IsReady fixed turnstile new → Joins (view root) (view other) (view new) → IsRootAgain fixed turnstile v new
  root-again v cut off root other new is-cut is-off back done ready joined =
      let seen : IsPrefix v.seen (view root).seen = subst (λ (es : List E). IsPrefix es (view root).seen) (ap (λ (x : View F E J). x.seen) is-cut) back.3 in (
        (ready, ap (λ (x : View F E J). x.jobs) joined.is ∙ back.0.1),
        ap (λ (x : View F E J). x.number) joined.is ∙ back.1,
        same_others v cut off (view root) (view other) (view new) is-cut is-off back.2 done.1 joined,
        begins_through v.seen (view root).seen (view new).seen seen joined.own,
      )

pub join_mut+arg3-returns : goal.join_mut+arg3-returns
join_mut+arg3-returns g t c = c.side_by_side.ensures

pub returns : goal.returns
returns g t c =
    let cut = view c.split-other.new.root in
    let off = view c.split-other.result in
    let back : IsRootAgain script_of c.args.shared.now.turnstile cut c.root-1.given.0 = search rules in
    let done : IsDone script_of c.args.shared.now.turnstile off c.other-2-1.given.0 = search rules in
    root-again script_of c.args.shared.now.turnstile (view c.args.root.now) cut off c.root-1.given.0 c.other-2-1.given.0 c.join.new.root c.split-other.ensures.root c.split-other.ensures.split_off back done c.join.ensures.seat c.join.ensures.joined
