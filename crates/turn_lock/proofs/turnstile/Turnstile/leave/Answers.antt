use Rattle.std.proofs.Common.{rules}
use Rattle.turn_lock.proofs.turnstile.Turnstile.leave.Goals as goal

pub returns-then-peek-gt0-clause-seat : goal.returns-then-peek-gt0-clause-seat
returns-then-peek-gt0-clause-seat g c = search rules

pub returns-then-peek-gt0-clause-turn : goal.returns-then-peek-gt0-clause-turn
returns-then-peek-gt0-clause-turn g c = search rules

pub returns-else-peek-gt0-clause-seat : goal.returns-else-peek-gt0-clause-seat
returns-else-peek-gt0-clause-seat g c = search rules

pub returns-else-peek-gt0-clause-turn : goal.returns-else-peek-gt0-clause-turn
returns-else-peek-gt0-clause-turn g c = search rules

pub release-requires-clause-value : goal.release-requires-clause-value
release-requires-clause-value g c = search rules

pub tell-requires-clause-turn : goal.tell-requires-clause-turn
tell-requires-clause-turn g c = search rules

pub tell-requires-clause-value : goal.tell-requires-clause-value
tell-requires-clause-value g c = search rules

pub put_back-requires-clause-seat : goal.put_back-requires-clause-seat
put_back-requires-clause-seat g c = search rules

pub put_back-requires-clause-turn : goal.put_back-requires-clause-turn
put_back-requires-clause-turn g c = search rules
