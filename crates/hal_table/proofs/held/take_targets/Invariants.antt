use Rattle.std.proofs.Common.{take}
use Rattle.hal_table.specs.Index.{IsTaken}
use Rattle.hal_table.proofs.held.take_targets.Given as goal

-- the targets so far are counted no more
abbrev pub invariant-loop-target : goal.invariant-loop-target
invariant-loop-target l = IsTaken (take l.target-index l.targets) l.initial.held l.held
