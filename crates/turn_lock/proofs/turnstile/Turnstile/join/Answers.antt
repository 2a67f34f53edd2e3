use Rattle.std.proofs.Common.{arith, ap, ◌∙◌}
use Rattle.turn_lock.specs.Seats.{in_hand}
use Rattle.turn_lock.specs.Steps.{joining}
use Rattle.turn_lock.proofs.Joining.{joins, may_look}
use Rattle.turn_lock.proofs.turnstile.Turnstile.join.Goals as goal

pub join_seat-requires : goal.join_seat-requires
join_seat-requires g c =
    let t = c.args.self.now in let root = c.args.root.now.place in let other = c.args.other.place in
    let seats = c.requires.seats in let done = c.requires.done in (
      seats.0.table,
      seats.1.table,
      seats.1.slots ∙ ap in_hand done.0,
      omega (arith, t.sized.0),
      joins g.S.Kept.fixed g.S.Kept.entries g.S.Kept.jobs _ _ root.me.0 _ other.me.0 seats.0.same c.requires.root seats.1.same done.0 done.1,
    )

pub load-requires : goal.load-requires
load-requires g c =
    let t = c.args.self.now in let root = c.args.root.now.place in let other = c.args.other.place in (
      c.join_seat.ensures.0 ∙ c.requires.seats.0.table,
      omega (arith, t.sized.0),
      may_look g.S.Kept.fixed g.S.Kept.entries g.S.Kept.jobs _ _ _ c.join_seat.new.seat.me (joining root.me.0 other.me.0) root.me.1 c.join_seat.ensures.2 c.requires.seats.0.same,
    )
