use Rattle.std.proofs.Common.{take}
use Rattle.hal_row.specs.Raised.{IsRaised, targets_bring}
use Rattle.hal_row.proofs.order.raise_targets.Given as goal

-- the numbers are raised for the targets so far
abbrev pub invariant-loop-target : goal.invariant-loop-target
invariant-loop-target l = IsRaised l.rank (targets_bring (take l.target-index l.targets)) l.initial.tops l.tops
