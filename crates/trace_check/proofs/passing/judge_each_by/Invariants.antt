use Rattle.std.proofs.Common.{◌≡◌, reverse, take}
use Rattle.trace_model.specs.Legal.{IsLegal}
use Rattle.trace_check.specs.Held.{held}
use Rattle.trace_check.proofs.passing.judge_each_by.Given as goal

abbrev pub invariant-loop-position : goal.invariant-loop-position
invariant-loop-position l = record {
  legal : IsLegal l.script (reverse (take l.position l.entries));
  held : l.tables ≡ held l.script (reverse (take l.position l.entries));
}
