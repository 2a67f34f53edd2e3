use Rattle.std.proofs.Common.{◌≡◌}
use Rattle.turn_lock.specs.Seats.{IsSeatOf}
use Rattle.turn_lock.proofs.turnstile.Turnstile.claim_soon.Given as goal

-- each look that fails leaves the seat as it was
abbrev pub invariant-loop : goal.invariant-loop
invariant-loop g l = record { seat : IsSeatOf g.S.Kept.fixed l.self l.seat; same : l.seat.place.me ≡ l.fn.seat.place.me }
