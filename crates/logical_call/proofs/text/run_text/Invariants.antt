-- The steps so far are those that the picks name, and the text tells them.
use Rattle.std.proofs.Common.{◌+◌, ◌-◌, ◌*◌, length}
use Rattle.run_model.specs.Bounds.{move_bound}
use Rattle.logical_call.proofs.Running.{RunsTo}
use Rattle.logical_call.proofs.text.run_text.Given as goal

abbrev pub invariant-loop-camera : goal.invariant-loop-camera
invariant-loop-camera l = RunsTo l.fn.cameras.script l.cameras l.made l.out.items

abbrev pub decreases-loop-camera : goal.decreases-loop-camera
decreases-loop-camera l = 2 * move_bound l.cameras.script - (length l.cameras.first + length l.cameras.second)
