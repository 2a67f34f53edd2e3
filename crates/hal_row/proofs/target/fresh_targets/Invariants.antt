use Rattle.std.proofs.Common.{◌≡◌, map, take}
use Rattle.hal_rows.specs.Row.{fresh_target}
use Rattle.hal_row.proofs.target.fresh_targets.Given as goal

abbrev pub invariant-loop-target : goal.invariant-loop-target
invariant-loop-target l = l.rows ≡ map fresh_target (take l.target-index l.targets)
