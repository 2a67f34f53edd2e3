use Rattle.std.proofs.Common.{◌≡◌, refl}
use Rattle.turn_lock.proofs.Opening.{ends}
use Rattle.turn_lock.proofs.turnstile.Turnstile.close.Goals as goal

pub unwrap-requires : goal.unwrap-requires
unwrap-requires g c =
    let v = c.args.root.place.me.0 in let asks = c.requires in
    let last = ends g.S.Kept.fixed g.S.Kept.entries g.S.Kept.jobs _ _ v _ _ _ asks.seat.same asks.root asks.alone asks.free c.close_with-closed.ensures.values.2 c.take-slot.ensures.value in
    rw last.1 refl

pub returns : goal.returns
returns g c =
    let v = c.args.root.place.me.0 in let asks = c.requires in
    let last = ends g.S.Kept.fixed g.S.Kept.entries g.S.Kept.jobs _ _ v _ _ _ asks.seat.same asks.root asks.alone asks.free c.close_with-closed.ensures.values.2 c.take-slot.ensures.value in
    let is : c.unwrap.result ≡ last.0 = cc (c.unwrap.ensures, last.1) in
    record { fixed = rw is last.2; entries = rw is last.3; jobs = rw is last.4; once = rw is last.5 }
