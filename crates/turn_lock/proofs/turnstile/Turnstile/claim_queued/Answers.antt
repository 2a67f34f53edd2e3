use Rattle.std.proofs.Common.{arith, ◌+◌, ◌%◌, ◌^◌, ◌-◌}
use Rattle.turn_lock.proofs.Queueing.{may_queue}
use Rattle.turn_lock.proofs.turnstile.Turnstile.claim_queued.Goals as goal

pub fetch_add-requires : goal.fetch_add-requires
fetch_add-requires g c =
    let t = c.args.self.now in let seat = c.args.seat.now.place in
    (c.requires.seat.table, omega (arith, t.sized.0), may_queue g.S.Kept.fixed g.S.Kept.entries g.S.Kept.jobs _ _ _ 1 seat.me (λ n. (n + 1) % 2 ^ 64))

pub fetch_sub-requires : goal.fetch_sub-requires
fetch_sub-requires g c =
    let t = c.args.self.now in let seat = c.claim_woken.new.seat.place in
    (c.claim_woken.ensures.seat.table, omega (arith, t.sized.0), may_queue g.S.Kept.fixed g.S.Kept.entries g.S.Kept.jobs _ _ _ 1 seat.me (λ n. (n + (2 ^ 64 - 1)) % 2 ^ 64))
