use Rattle.std.proofs.Common.{◌*◌, ◌-◌}
use Rattle.shared_camera.proofs.workers.«+fn-side_by_side-join_mut+arg3+side_by_side».Given as goal

abbrev pub decreases-join_mut+arg3 : goal.decreases-join_mut+arg3
decreases-join_mut+arg3 g l = 2 * l.loops - 1

abbrev pub decreases-side_by_side : goal.decreases-side_by_side
decreases-side_by_side g l = 2 * l.loops
