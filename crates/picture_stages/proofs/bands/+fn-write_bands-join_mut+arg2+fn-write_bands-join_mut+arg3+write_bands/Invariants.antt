use Rattle.std.proofs.Common.{◌+◌, ◌*◌}
use Rattle.picture_stages.proofs.bands.«+fn-write_bands-join_mut+arg2+fn-write_bands-join_mut+arg3+write_bands».Given as goal

abbrev pub decreases-write_bands : goal.decreases-write_bands
decreases-write_bands g l = 2 * l.bands

abbrev pub decreases-join_mut+arg2 : goal.decreases-join_mut+arg2
decreases-join_mut+arg2 g l = 2 * l.before + 1

abbrev pub decreases-join_mut+arg3 : goal.decreases-join_mut+arg3
decreases-join_mut+arg3 g l = 2 * l.after + 1
