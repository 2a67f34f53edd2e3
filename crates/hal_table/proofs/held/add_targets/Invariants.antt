use Rattle.std.proofs.Common.{take}
use Rattle.hal_table.specs.Index.{IsAdded}
use Rattle.hal_table.proofs.held.add_targets.Given as goal

-- the targets so far are counted
abbrev pub invariant-loop-target : goal.invariant-loop-target
invariant-loop-target l = IsAdded (take l.target-index l.targets) l.initial.held l.held
