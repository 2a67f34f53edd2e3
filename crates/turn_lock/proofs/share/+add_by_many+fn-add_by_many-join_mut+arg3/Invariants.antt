use Rattle.std.proofs.Common.{◌*◌, ◌-◌}
use Rattle.turn_lock.proofs.share.«+add_by_many+fn-add_by_many-join_mut+arg3».Given as goal

abbrev pub decreases-add_by_many : goal.decreases-add_by_many
decreases-add_by_many g l = 2 * l.threads

abbrev pub decreases-join_mut+arg3 : goal.decreases-join_mut+arg3
decreases-join_mut+arg3 g l = 2 * l.threads - 1
