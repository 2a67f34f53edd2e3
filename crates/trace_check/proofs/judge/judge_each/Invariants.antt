use Rattle.std.proofs.Common.{reverse, take}
use Rattle.trace_model.specs.Legal.{IsLegal}
use Rattle.trace_check.proofs.judge.judge_each.Given as goal

abbrev pub invariant-loop-position : goal.invariant-loop-position
invariant-loop-position l = IsLegal l.script (reverse (take l.position l.entries))
