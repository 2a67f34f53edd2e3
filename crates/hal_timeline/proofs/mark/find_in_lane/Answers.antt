use Rattle.std.proofs.Common.{arith}
use Rattle.std.proofs.lemmas.Grind.{common_steps}
use Rattle.hal_timeline.proofs.mark.find_in_lane.Goals as goal

pub loop-seat-preserved : goal.loop-seat-preserved
loop-seat-preserved c = grind (arith, common_steps)

pub returns-then-is_seat_in : goal.returns-then-is_seat_in
returns-then-is_seat_in c = grind (arith, common_steps)

pub returns : goal.returns
returns c = grind (arith, common_steps)
