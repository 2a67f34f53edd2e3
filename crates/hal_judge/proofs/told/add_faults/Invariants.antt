use Rattle.std.proofs.Common.{◌≡◌, ◌++◌, map, take}
use Rattle.hal_rows.specs.Judged.{breach_of}
use Rattle.hal_judge.proofs.told.add_faults.Given as goal

abbrev pub invariant-loop-fault : goal.invariant-loop-fault
invariant-loop-fault l =
    l.breaches.items ≡ l.initial.breaches.items ++ map (breach_of l.line l.rule) (take l.fault-index l.faults)
