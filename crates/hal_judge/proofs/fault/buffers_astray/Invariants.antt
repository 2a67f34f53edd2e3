use Rattle.std.proofs.Common.{◌≡◌, ◌++◌, [], drop, map, reverse, take}
use Rattle.hal_model.specs.Rules.{at}
use Rattle.hal_rows.specs.Judged.{row_astray}
use Rattle.hal_judge.proofs.fault.buffers_astray.Given as goal

-- what is told and what is left are all that is astray
abbrev pub invariant-loop-place : goal.invariant-loop-place
invariant-loop-place l =
    map (at l.frame) (row_astray l.row [] l.buffers)
    ≡ l.faults.items ++ map (at l.frame) (row_astray l.row (reverse (take l.place l.buffers)) (drop l.place l.buffers))
