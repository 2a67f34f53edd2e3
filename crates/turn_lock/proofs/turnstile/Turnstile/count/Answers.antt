use Rattle.std.proofs.Common.{arith}
use Rattle.turn_lock.proofs.Counting.{may_count}
use Rattle.turn_lock.proofs.turnstile.Turnstile.count.Goals as goal

pub load-requires : goal.load-requires
load-requires g c =
    let t = c.args.self.now in let seat = c.args.seat.now.place in
    (c.requires.table, omega (arith, t.sized.0), may_count g.S.Kept.fixed g.S.Kept.entries g.S.Kept.jobs _ _ _ seat.me c.requires.same)
