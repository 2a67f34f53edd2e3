use Rattle.std.proofs.Common.{arith}
use Rattle.turn_lock.proofs.Releasing.{may_release}
use Rattle.turn_lock.proofs.turnstile.Turnstile.release.Goals as goal

pub store-requires : goal.store-requires
store-requires g c =
    let t = c.args.self.now in let seat = c.args.seat.now.place in let v = c.requires.value in
    (c.requires.seat.table, omega (arith, t.sized.0), may_release g.S.Kept.fixed g.S.Kept.entries g.S.Kept.jobs _ _ _ seat.me v.0 v.1 c.requires.seat.same c.requires.turn v.2 v.3)
