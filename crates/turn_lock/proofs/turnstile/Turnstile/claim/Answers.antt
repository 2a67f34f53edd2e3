use Rattle.std.proofs.Common.{arith}
use Rattle.turn_lock.proofs.Claiming.{may_claim}
use Rattle.turn_lock.proofs.turnstile.Turnstile.claim.Goals as goal

pub compare_exchange-requires : goal.compare_exchange-requires
compare_exchange-requires g c =
    let t = c.args.self.now in let seat = c.args.seat.now.place in
    (c.requires.seat.table, omega (arith, t.sized.0), may_claim g.S.Kept.fixed g.S.Kept.entries g.S.Kept.jobs _ _ _ seat.me c.requires.seat.slots c.requires.seat.same c.requires.free)
