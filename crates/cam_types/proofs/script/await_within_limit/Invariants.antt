use Rattle.std.proofs.Common.{◌≡◌, ◌≤◌, sum_by, take}
use Rattle.cam_types.specs.Script.{awaited_by}
use Rattle.cam_types.proofs.script.await_within_limit.Given as goal

abbrev pub invariant-loop-command : goal.invariant-loop-command
invariant-loop-command l = (l.awaited ≡ sum_by awaited_by (take l.command-index l.commands)) × (l.awaited ≤ 16384)
