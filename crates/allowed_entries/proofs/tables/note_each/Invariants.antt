use Rattle.std.proofs.Common.{◌≡◌, reverse, take}
use Rattle.trace_check.specs.Held.{held}
use Rattle.allowed_entries.proofs.tables.note_each.Given as goal

abbrev pub invariant-loop-place : goal.invariant-loop-place
invariant-loop-place l = l.tables ≡ held l.script (reverse (take l.place l.entries))
