use Rattle.std.proofs.Common.{◌≡◌, ◌++◌, map, take}
use Rattle.allowed_entries.specs.Readings.{frames_in}
use Rattle.allowed_entries.proofs.frames.add_rows.Given as goal

abbrev pub invariant-loop-row : goal.invariant-loop-row
invariant-loop-row l = l.list.items ≡ l.initial.list.items ++ frames_in l.script l.tables.state (map (λ r. r.frame.0) (take l.row-index l.rows))
