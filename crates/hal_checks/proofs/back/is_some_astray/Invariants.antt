use Rattle.std.proofs.Common.{◌≡◌, [], drop, reverse, take}
use Rattle.hal_rows.specs.Judged.{row_astray}
use Rattle.hal_checks.proofs.back.is_some_astray.Given as goal

-- none of the buffers so far is astray
abbrev pub invariant-loop-place : goal.invariant-loop-place
invariant-loop-place l =
    row_astray l.row [] l.buffers ≡ row_astray l.row (reverse (take l.place l.buffers)) (drop l.place l.buffers)
