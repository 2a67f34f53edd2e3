use Rattle.std.proofs.Common.{arith}
use Rattle.turn_lock.proofs.Splitting.{splits}
use Rattle.turn_lock.proofs.turnstile.Turnstile.split.Goals as goal

pub split_seat-requires : goal.split_seat-requires
split_seat-requires g c =
    let t = c.args.self.now in let seat = c.args.root.now.place in
    (c.requires.seat.table, omega (arith, t.sized.0), splits g.S.Kept.fixed g.S.Kept.entries g.S.Kept.jobs _ _ seat.me.0 c.requires.seat.same c.requires.root)
