use Rattle.turn_lock.proofs.Opening.{begins, one_slot}
use Rattle.turn_lock.proofs.turnstile.Turnstile.new.Goals as goal

pub new-requires : goal.new-requires
new-requires g c =
    rw (c.of-about.ensures, one_slot c.args.value c.in-Ok.slots.items c.push_reserved.new.self.items c.push_reserved.ensures.items c.in-Ok.ensures.items)
    (begins g.S.Kept.fixed g.S.Kept.entries g.S.Kept.jobs c.args.value c.args.count c.requires.idle c.requires.count)
