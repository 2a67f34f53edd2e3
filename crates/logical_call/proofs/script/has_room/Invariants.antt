use Rattle.std.proofs.Common.{◌≡◌, ◌≤◌, sum_by, take}
use Rattle.trace_laws.specs.Bounds.{queued_by}
use Rattle.logical_call.proofs.script.has_room.Given as goal

abbrev pub invariant-loop-command : goal.invariant-loop-command
invariant-loop-command l = (l.items ≡ sum_by queued_by (take l.command-index l.commands)) × (l.items ≤ 256)
