use Rattle.std.proofs.Common.{◌≡◌, map, take}
use Rattle.hal_row.specs.Given.{with_buffers}
use Rattle.hal_row.proofs.target.all_with_buffers.Given as goal

abbrev pub invariant-loop-target : goal.invariant-loop-target
invariant-loop-target l = l.rows ≡ map (with_buffers l.buffers l.flushing) (take l.target-index l.targets)
