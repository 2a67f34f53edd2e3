use Rattle.std.proofs.Common.{arith}
use Rattle.turn_lock.proofs.Counting.{may_tell}
use Rattle.turn_lock.proofs.turnstile.Turnstile.tell.Goals as goal

pub store-requires : goal.store-requires
store-requires g c =
    let t = c.args.self.now in let seat = c.args.seat.now.place in let v = c.requires.value in
    (c.requires.seat.table, omega (arith, t.sized.0), may_tell g.S.Kept.fixed g.S.Kept.entries g.S.Kept.jobs _ _ _ seat.me v.0 c.args.count v.1 c.requires.seat.same c.requires.turn v.2 v.3)
