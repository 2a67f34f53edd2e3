use Rattle.std.proofs.Common.{◌≡◌, [], reverse, take, drop}
use Rattle.cam_types.specs.Refusals.{first_repeated}
use Rattle.request_checks.proofs.item.first_repeated.Given as goal

abbrev pub invariant-loop-place : goal.invariant-loop-place
invariant-loop-place l = first_repeated [] l.targets ≡ first_repeated (reverse (take l.place l.targets)) (drop l.place l.targets)
