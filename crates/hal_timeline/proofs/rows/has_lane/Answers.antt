use Rattle.std.proofs.Common.{arith}
use Rattle.std.proofs.lemmas.Grind.{common_steps}
use Rattle.hal_timeline.proofs.rows.has_lane.Goals as goal

pub loop-lane-preserved : goal.loop-lane-preserved
loop-lane-preserved c = grind (arith, common_steps)

pub returns-then-is_lane_of : goal.returns-then-is_lane_of
returns-then-is_lane_of c = grind (arith, common_steps)

pub returns : goal.returns
returns c = grind (arith, common_steps)
