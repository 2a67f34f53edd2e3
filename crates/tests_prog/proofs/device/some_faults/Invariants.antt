-- At most one fault for each frame.
use Rattle.std.proofs.Common.{◌≤◌, length}
use Rattle.tests_prog.proofs.device.some_faults.Given as goal

abbrev pub invariant-loop-n : goal.invariant-loop-n
invariant-loop-n l = length l.faults ≤ l.n
