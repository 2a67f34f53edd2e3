use Rattle.std.proofs.Common.{arith}
use Rattle.std.proofs.lemmas.Grind.{common_steps}
use Rattle.timeline_model.proofs.seat.seat_of.Goals as goal

pub loop-seat-preserved : goal.loop-seat-preserved
loop-seat-preserved c = grind (arith, common_steps)

pub returns-then-is_seat_of : goal.returns-then-is_seat_of
returns-then-is_seat_of c = grind (arith, common_steps)

pub returns : goal.returns
returns c = grind (arith, common_steps)
