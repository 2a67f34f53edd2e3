use Rattle.std.proofs.Common.{length}
use Rattle.hal_device.proofs.request.+names_twice.Given as goal

abbrev pub decreases-names_twice : goal.decreases-names_twice
decreases-names_twice l = length l.targets.now
