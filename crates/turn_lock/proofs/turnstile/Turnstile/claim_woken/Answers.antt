use Rattle.std.proofs.Common.{◌≡◌, sym, subst, ◌∙◌}
use Rattle.turn_lock.specs.Seats.{HasTurn, in_hand}
use Rattle.turn_lock.proofs.turnstile.Turnstile.claim_woken.Goals as goal

pub returns-then-claim-clause-turn : goal.returns-then-claim-clause-turn
returns-then-claim-clause-turn g c =
    let s = g.S.Kept in
    let has = rw c.if-claim.true at c.claim.ensures.turn in
    subst (λ me. HasTurn s.fixed s.entries s.jobs c.args.self.now me.0 c.claim.new.seat) c.loop.invariant.same has

pub loop-preserved : goal.loop-preserved
loop-preserved g c =
    let still = rw c.if-claim.false at c.claim.ensures.turn in
    let of = c.claim.ensures.seat in
    let slots = subst (λ me. me.1 ≡ in_hand me.0.holds) (sym still) c.loop.invariant.seat.slots in
    record { seat = record { table = of.table; same = of.same; slots = slots }; same = still ∙ c.loop.invariant.same }
