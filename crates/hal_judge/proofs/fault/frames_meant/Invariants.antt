use Rattle.std.proofs.Common.{◌≡◌, ◌++◌, filter, map}
use Rattle.std.specs.Map.{values_of}
use Rattle.hal_checks.specs.Meant.{is_meant}
use Rattle.hal_judge.specs.Meant.{frame_of}
use Rattle.hal_judge.proofs.fault.frames_meant.Given as goal

-- the numbers so far, and those of the rows that are left
abbrev pub invariant-loop-row : goal.invariant-loop-row
invariant-loop-row l =
    l.frames.items ++ map frame_of (filter (is_meant l.which l.event) (values_of l.row-iterator))
    ≡ map frame_of (filter (is_meant l.which l.event) l.table.rows)
